-- One node more of a level over the numbers of keys.
use Rattle.std.proofs.Common.{◌≡◌, ℕ, ◌+◌, ◌<◌, ◌≤◌, Bool, true, if◌then◌else◌, inl, inr, List, [], ◌∷◌, ◌++◌, length, get_or, refl, sym, ap, ◌∙◌, subst, arith}
use Rattle.std.proofs.lemmas.Bool.{cases_eq}
use Rattle.std.proofs.lemmas.List.{length_push, get_or_append_left, get_or_at}
use Rattle.std.specs.List.{list_any, position_or_len}
use Rattle.sifting.specs.Leveled.{Children, at, ReachedFirst, NumbersFirst}
use Rattle.sifting.specs.NodeTables.{Inserted}
use Rattle.sifting.proofs.Insertions.{inserted}

-- reading a list with one element more
pub at_new : (L : List Children) (c : Children) (k done : ℕ) → length L ≡ done → k ≡ done → at (L ++ c ∷ []) k ≡ c
at_new L c k done e f = ap (at (L ++ c ∷ [])) (f ∙ sym e) ∙ get_or_at L c [] (0, 0) (length L) refl

pub at_old : (L : List Children) (c : Children) (k done : ℕ) → length L ≡ done → k < done → at (L ++ c ∷ []) k ≡ at L k
at_old L c k done e h = get_or_append_left L (c ∷ []) (0, 0) k (omega arith)

-- a place below one more
pub below_next : {P : ℕ → Type 0} (done : ℕ) → ((k : ℕ) → k < done → P k) → ((k : ℕ) → k ≡ done → P k) → (k : ℕ) → k < done + 1 → P k
below_next done old new k h = elim (cases_eq k done) [ inl e ↦ new k e | inr ne ↦ old k (omega arith) ]

module _ {K : Type 0} (d : K) (off_key on_key : ℕ → K) where
  -- no node yet
  pub numbers_none : (kept : List Children) (keys : List K) → kept ≡ [] → keys ≡ [] → NumbersFirst d off_key on_key 0 kept keys
  numbers_none kept keys e f = grind arith

  -- two insertions and one more node
  pub numbers_more : (done : ℕ) (kept : List Children) (keys keys1 keys2 : List K) (p q : K) (i j : ℕ) → NumbersFirst d off_key on_key done kept keys →
      Inserted d keys keys1 p i → Inserted d keys1 keys2 q j → p ≡ off_key done → q ≡ on_key done →
      NumbersFirst d off_key on_key (done + 1) (kept ++ (i, j) ∷ []) keys2
  numbers_more done kept keys keys1 keys2 p q i j ex one two pe qe =
      record {
        many = length_push kept (i, j) ∙ ap (λ m. m + 1) ex.many;
        few = let a = ex.few in let b = one.few in let c = two.few in omega arith;
        inside = below_next {P = λ k. ((at (kept ++ (i, j) ∷ []) k).0 < length keys2) × ((at (kept ++ (i, j) ∷ []) k).1 < length keys2)} done
            (λ k h. let f = ex.inside k h in
            subst (λ (c : Children). (c.0 < length keys2) × (c.1 < length keys2)) (sym (old k h))
            (omega (arith, f.0), omega (arith, f.1)))
            (λ k e. subst (λ (c : Children). (c.0 < length keys2) × (c.1 < length keys2)) (sym (new k e)) (omega (arith, one.there), two.there));
        off = below_next {P = λ k. get_or keys2 (at (kept ++ (i, j) ∷ []) k).0 d ≡ off_key k} done
            (λ k h. ap (λ (c : Children). get_or keys2 c.0 d) (old k h) ∙ stays (at kept k).0 (ex.inside k h).0 ∙ ex.off k h)
            (λ k e. ap (λ (c : Children). get_or keys2 c.0 d) (new k e) ∙ two.kept i one.there ∙ one.here ∙ pe ∙ ap off_key (sym e));
        on = below_next {P = λ k. get_or keys2 (at (kept ++ (i, j) ∷ []) k).1 d ≡ on_key k} done
            (λ k h. ap (λ (c : Children). get_or keys2 c.1 d) (old k h) ∙ stays (at kept k).1 (ex.inside k h).1 ∙ ex.on k h)
            (λ k e. ap (λ (c : Children). get_or keys2 c.1 d) (new k e) ∙ two.here ∙ qe ∙ ap on_key (sym e));
        once = two.once (one.once ex.once);
        reached = reached;
      }
    where
      grows : length keys ≤ length keys2
      grows = let a = one.grows in let b = two.grows in omega arith

      old : (k : ℕ) → k < done → at (kept ++ (i, j) ∷ []) k ≡ at kept k
      old k h = at_old kept (i, j) k done ex.many h

      new : (k : ℕ) → k ≡ done → at (kept ++ (i, j) ∷ []) k ≡ (i, j)
      new k e = at_new kept (i, j) k done ex.many e

      stays : (m : ℕ) → m < length keys → get_or keys2 m d ≡ get_or keys m d
      stays m h = two.kept m (let g = one.grows in omega arith) ∙ one.kept m h

      reached : ReachedFirst (done + 1) (length keys2) (kept ++ (i, j) ∷ [])
      reached m h =
          let last : ((at (kept ++ (i, j) ∷ []) done).0 ≡ i) × ((at (kept ++ (i, j) ∷ []) done).1 ≡ j) =
          (ap (λ (c : Children). c.0) (new done refl), ap (λ (c : Children). c.1) (new done refl)) in
          elim (two.fresh m h) [
            | inl a ↦
                elim (one.fresh m a) [
                  | inl b ↦
                      let r = ex.reached m b in
                      let o = old r.0 r.1 in
                      (r.0, omega (arith, r.1), elim r.2 [ inl e ↦ inl (ap (λ (c : Children). c.0) o ∙ e) | inr e ↦ inr (ap (λ (c : Children). c.1) o ∙ e) ])
                  | inr e ↦ (done, omega arith, inl (last.0 ∙ sym e))
                ]
            | inr e ↦ (done, omega arith, inr (last.1 ∙ sym e))
          ]

  -- the same, by what an `IndexSet` returns
  module _ (eq : K → K → Bool) (decides : (x y : K) → (eq x y ≡ true → x ≡ y) × (x ≡ y → eq x y ≡ true)) where
    pub numbers_step : (done : ℕ) (kept kept' : List Children) (keys keys1 keys2 : List K) (p q : K) (i j : ℕ) →
        NumbersFirst d off_key on_key done kept keys → p ≡ off_key done → q ≡ on_key done →
        keys1 ≡ (if list_any (eq p) keys then keys else keys ++ p ∷ []) → i ≡ position_or_len (eq p) keys →
        keys2 ≡ (if list_any (eq q) keys1 then keys1 else keys1 ++ q ∷ []) → j ≡ position_or_len (eq q) keys1 →
        kept' ≡ kept ++ (i, j) ∷ [] → NumbersFirst d off_key on_key (done + 1) kept' keys2
    numbers_step done kept kept' keys keys1 keys2 p q i j ex pe qe a b c e f =
        let one = subst (λ m. Inserted d keys keys1 p m) (sym b)
        (subst (λ ks. Inserted d keys ks p (position_or_len (eq p) keys)) (sym a) (inserted eq decides d p keys)) in
        let two = subst (λ m. Inserted d keys1 keys2 q m) (sym e)
        (subst (λ ks. Inserted d keys1 ks q (position_or_len (eq q) keys1)) (sym c) (inserted eq decides d q keys1)) in
        subst (λ ks. NumbersFirst d off_key on_key (done + 1) ks keys2) (sym f) (numbers_more done kept keys keys1 keys2 p q i j ex one two pe qe)
