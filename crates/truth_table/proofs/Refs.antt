-- The refs of a level, one after the other.
--     ref_found      the ref over a pair is found, or put behind the others
--     numbered_step      with one more ref
use Rattle.std.proofs.Common.{◌≡◌, ◌≢◌, ℕ, zero, suc, ◌+◌, ◌<◌, ◌⊎◌, inl, inr, List, [], ◌∷◌, ◌++◌, map, length, get_or, slice_get, refl, sym, ap, ◌∙◌, arith, subst, Some, length-append, Bool, true, false, cond, not, add-zero}
use Rattle.std.specs.List.{IsDistinct, list_any}
use Rattle.std.proofs.lemmas.Bool.{cases_eq}
use Rattle.std.proofs.lemmas.List.{map-append, append_assoc, get_or_append_left, get_or_at}
use Rattle.std.proofs.lemmas.Option.{slice_get_within, same_Some}
use Rattle.definitions.specs.Widths.{same_pair}
use Rattle.definitions.specs.declared.refs.Node.{Node}
use Rattle.definitions.proofs.Nodes.Appended.{get_left, get_right, get_cases}
use Rattle.definitions.proofs.Widths.ClassPairs.{pair_decides}
use Rattle.truth_table.proofs.Lists.{same_key}
use Rattle.truth_table.specs.Levels.{IsNumberOf, IsNumbered, Seeks, node_over}

-- a set of pairs that a pair is put into
pub ref_found : (base x : ℕ) (u : ℕ × ℕ) (keys keys' : List (ℕ × ℕ)) (nodes nodes' : List Node) (place : ℕ) (is_new : Bool) → u.0 ≢ u.1 →
    is_new ≡ not (list_any (same_pair u) keys) → keys' ≡ cond (list_any (same_pair u) keys) keys (keys ++ u ∷ []) →
    (v : ℕ × ℕ) → slice_get keys' place ≡ Some v → same_pair u v ≡ true → IsDistinct same_pair keys' →
    nodes' ≡ cond is_new (nodes ++ node_over x u ∷ []) nodes → Seeks base x u keys keys' nodes nodes' (base + place + 2)
ref_found base x u keys keys' nodes nodes' place is_new ne a k v at same once ns = record {
  number = inr (ne, (place, stored, refl));
  once = λ d. once;
  more = by (list_any (same_pair u) keys) refl;
}
  where
    stored : slice_get keys' place ≡ Some u
    stored = at ∙ ap Some (sym ((pair_decides u v).0 same))

    last : slice_get (keys ++ u ∷ []) (length keys) ≡ Some u
    last = ap (slice_get (keys ++ u ∷ [])) (sym (add-zero (length keys))) ∙ get_right keys (u ∷ []) 0

    by : (b : Bool) → list_any (same_pair u) keys ≡ b → ((keys' ≡ keys) × (nodes' ≡ nodes))
        ⊎ ((u.0 ≢ u.1) × (keys' ≡ keys ++ u ∷ []) × (nodes' ≡ nodes ++ node_over x u ∷ []) × (base + place + 2 ≡ base + length keys + 2))
    by true e = inl (k ∙ ap (λ b. cond b keys (keys ++ u ∷ [])) e, ns ∙ ap (λ b. cond b (nodes ++ node_over x u ∷ []) nodes) (a ∙ ap not e))
    by false e =
        let kk = k ∙ ap (λ b. cond b keys (keys ++ u ∷ [])) e in
        let p = same_key keys' once place (length keys) u stored (ap (λ ks. slice_get ks (length keys)) kk ∙ last) in
        inr (ne, kk, ns ∙ ap (λ b. cond b (nodes ++ node_over x u ∷ []) nodes) (a ∙ ap not e), ap (λ z. base + z + 2) p)

module _ (x : ℕ) (old : List Node) (pairs keys : List (ℕ × ℕ)) (nodes : List Node) (numbers : List ℕ) (m : IsNumbered x old pairs keys nodes numbers)
    (u : ℕ × ℕ) (keys' : List (ℕ × ℕ)) (nodes' : List Node) (c : ℕ) (s : Seeks (length old) x u keys keys' nodes nodes' c) where
  grows : (i : ℕ) (v : ℕ × ℕ) → slice_get keys i ≡ Some v → slice_get keys' i ≡ Some v
  grows i v e = grind (arith, slice_get, get_left, slice_get_within)

  lifted : (v : ℕ × ℕ) (d : ℕ) → IsNumberOf (length old) keys v d → IsNumberOf (length old) keys' v d
  lifted v d h = elim h [ inl e ↦ inl e | inr e ↦ inr (e.0, (e.1.0, grows e.1.0 v e.1.1, e.1.2)) ]

  long_pairs : length (pairs ++ u ∷ []) ≡ length pairs + 1
  long_pairs = omega (arith, length-append pairs (u ∷ []))

  pair_old : (k : ℕ) → k < length pairs → get_or (pairs ++ u ∷ []) k (0, 0) ≡ get_or pairs k (0, 0)
  pair_old k h = get_or_append_left pairs (u ∷ []) (0, 0) k h

  number_old : (k : ℕ) → k < length pairs → get_or (numbers ++ c ∷ []) k 0 ≡ get_or numbers k 0
  number_old k h = get_or_append_left numbers (c ∷ []) 0 k (omega arith)

  pair_new : get_or (pairs ++ u ∷ []) (length pairs) (0, 0) ≡ u
  pair_new = get_or_at pairs u [] (0, 0) (length pairs) refl

  number_new : get_or (numbers ++ c ∷ []) (length pairs) 0 ≡ c
  number_new = get_or_at numbers c [] 0 (length pairs) m.long

  named_all : (k : ℕ) → k < length (pairs ++ u ∷ []) →
      IsNumberOf (length old) keys' (get_or (pairs ++ u ∷ []) k (0, 0)) (get_or (numbers ++ c ∷ []) k 0)
  named_all k h = elim (cases_eq k (length pairs)) [
    | inl e ↦ subst (λ z. IsNumberOf (length old) keys' (get_or (pairs ++ u ∷ []) z (0, 0)) (get_or (numbers ++ c ∷ []) z 0)) (sym e)
        (subst (λ v. IsNumberOf (length old) keys' v (get_or (numbers ++ c ∷ []) (length pairs) 0)) (sym pair_new)
        (subst (IsNumberOf (length old) keys' u) (sym number_new) s.number))
    | inr ne ↦
        let lt : k < length pairs = omega (arith, long_pairs) in
        subst (λ v. IsNumberOf (length old) keys' v (get_or (numbers ++ c ∷ []) k 0)) (sym (pair_old k lt))
        (subst (IsNumberOf (length old) keys' (get_or pairs k (0, 0))) (sym (number_old k lt))
        (lifted (get_or pairs k (0, 0)) (get_or numbers k 0) (m.named k lt)))
  ]

  abbrev Used : ℕ → ℕ × ℕ → Type 0
  Used i v = (v.0 ≢ v.1) × ((k : ℕ) × (k < length (pairs ++ u ∷ [])) × (get_or (pairs ++ u ∷ []) k (0, 0) ≡ v)
      × (get_or (numbers ++ c ∷ []) k 0 ≡ length old + i + 2))

  used_old : (i : ℕ) (v : ℕ × ℕ) → slice_get keys i ≡ Some v → Used i v
  used_old i v e =
      let w = m.used i v e in
      (w.0, (w.1.0, omega (arith, long_pairs), pair_old w.1.0 w.1.1 ∙ w.1.2, number_old w.1.0 w.1.1 ∙ w.1.3))

  used_all : (i : ℕ) (v : ℕ × ℕ) → slice_get keys' i ≡ Some v → Used i v
  used_all i v e = elim s.more [
    | inl a ↦ used_old i v (ap (λ ks. slice_get ks i) (sym a.0) ∙ e)
    | inr b ↦ elim (get_cases keys (u ∷ []) i v (ap (λ ks. slice_get ks i) (sym b.1) ∙ e)) [
      | inl f ↦ used_old i v f
      | inr g ↦ last b.0 b.3 g.0 g.1 g.2
    ]
  ]
    where
      last : u.0 ≢ u.1 → c ≡ length old + length keys + 2 → (j : ℕ) → i ≡ length keys + j → slice_get (u ∷ []) j ≡ Some v → Used i v
      last ne d zero f g =
          let l = long_pairs in
          subst (Used i) (same_Some u v g) (ne, (length pairs, omega arith, pair_new, number_new ∙ (let h : c ≡ length old + i + 2 = omega arith in h)))
      last ne d (suc j) f g = cc

  pub numbered_step : IsNumbered x old (pairs ++ u ∷ []) keys' nodes' (numbers ++ c ∷ [])
  numbered_step = record {
    nodes_are = elim s.more [
      | inl a ↦ a.1 ∙ m.nodes_are ∙ ap (λ ks. old ++ map (node_over x) ks) (sym a.0)
      | inr b ↦ b.2 ∙ ap (λ ns. ns ++ node_over x u ∷ []) m.nodes_are ∙ append_assoc old (map (node_over x) keys) (node_over x u ∷ [])
          ∙ ap (λ ns. old ++ ns) (sym (map-append (node_over x) keys (u ∷ [])))
          ∙ ap (λ ks. old ++ map (node_over x) ks) (sym b.1)
    ];
    once = s.once m.once;
    few = elim s.more [
      | inl a ↦ omega (arith, ap length a.0, long_pairs)
      | inr b ↦ omega (arith, ap length b.1, length-append keys (u ∷ []), long_pairs)
    ];
    long = omega (arith, length-append numbers (c ∷ []), long_pairs);
    named = named_all;
    used = used_all;
  }
