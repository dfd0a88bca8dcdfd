-- One root more with a number.
use Rattle.std.proofs.Common.{◌≡◌, ℕ, ◌+◌, ◌<◌, if◌then◌else◌, inl, inr, List, [], ◌∷◌, ◌++◌, length, get_or, refl, sym, ap, ◌∙◌, subst, arith, nat_eq}
use Rattle.std.proofs.lemmas.List.{length_push, get_or_append_left, get_or_at}
use Rattle.std.specs.List.{list_any, position_or_len}
use Rattle.definitions.specs.declared.refs.Ref.{Ref}
use Rattle.sifting.specs.Cuts.{code_of, ref_at, RootsFirst}
use Rattle.sifting.specs.NodeTables.{Inserted}
use Rattle.sifting.proofs.Insertions.{inserted}
use Rattle.sifting.proofs.LevelNodes.{below_next}
use Rattle.definitions.proofs.Lists.Sets.{nat_decides}

roots_more : (done : ℕ) (roots : List Ref) (numbers keys keys1 : List ℕ) (p i : ℕ) → RootsFirst done roots numbers keys →
    Inserted 0 keys keys1 p i → p ≡ code_of (ref_at roots done) →
    RootsFirst (done + 1) roots (numbers ++ i ∷ []) keys1
roots_more done roots numbers keys keys1 p i r one pe = record {
  many = length_push numbers i ∙ ap (λ m. m + 1) r.many;
  few = let a = r.few in let b = one.few in omega arith;
  inside = below_next {P = λ k. get_or (numbers ++ i ∷ []) k 0 < length keys1} done
      (λ k h. let f = r.inside k h in let g = one.grows in let e = old k h in omega arith)
      (λ k e. let f = one.there in let g = new k e in omega arith);
  numbered = below_next {P = λ k. get_or keys1 (get_or (numbers ++ i ∷ []) k 0) 0 ≡ code_of (ref_at roots k)} done
      (λ k h. ap (λ m. get_or keys1 m 0) (old k h) ∙ one.kept (get_or numbers k 0) (r.inside k h) ∙ r.numbered k h)
      (λ k e. ap (λ m. get_or keys1 m 0) (new k e) ∙ one.here ∙ pe ∙ ap (λ m. code_of (ref_at roots m)) (sym e));
  once = one.once r.once;
  reached = λ j h.
      elim (one.fresh j h) [
        | inl a ↦ let f = r.reached j a in (f.0, omega (arith, f.1), old f.0 f.1 ∙ f.2)
        | inr e ↦ (done, omega arith, new done refl ∙ sym e)
      ];
}
  where
    old : (k : ℕ) → k < done → get_or (numbers ++ i ∷ []) k 0 ≡ get_or numbers k 0
    old k h = let m = r.many in get_or_append_left numbers (i ∷ []) 0 k (omega arith)

    new : (k : ℕ) → k ≡ done → get_or (numbers ++ i ∷ []) k 0 ≡ i
    new k e = ap (λ m. get_or (numbers ++ i ∷ []) m 0) (e ∙ sym r.many) ∙ get_or_at numbers i [] 0 (length numbers) refl

-- the same, by what an `IndexSet` returns
pub roots_step : (done : ℕ) (roots : List Ref) (numbers numbers' keys keys1 : List ℕ) (p i : ℕ) → RootsFirst done roots numbers keys →
    p ≡ code_of (ref_at roots done) →
    keys1 ≡ (if list_any (nat_eq p) keys then keys else keys ++ p ∷ []) → i ≡ position_or_len (nat_eq p) keys →
    numbers' ≡ numbers ++ i ∷ [] → RootsFirst (done + 1) roots numbers' keys1
roots_step done roots numbers numbers' keys keys1 p i r pe a b c =
    let one = subst (λ m. Inserted 0 keys keys1 p m) (sym b)
    (subst (λ ks. Inserted 0 keys ks p (position_or_len (nat_eq p) keys)) (sym a) (inserted nat_eq nat_decides 0 p keys)) in
    subst (λ ns. RootsFirst (done + 1) roots ns keys1) (sym c) (roots_more done roots numbers keys keys1 p i r one pe)
