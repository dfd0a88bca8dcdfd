-- What the masks of lower classes tell.
--     one_told      the variables in the mask of one more pair are told
--     told_le      the classes that have a variable are at most as many as the distinct pairs that have it in their masks
use Rattle.std.proofs.Common.{◌≡◌, ℕ, ◌<◌, ◌≤◌, eqb, eqb-true, eq-eqb, inl, inr, bit_or, List, length, get_or, set, refl, sym, ap, ◌∙◌, arith}
use Rattle.std.specs.Int.{bit_at}
use Rattle.std.specs.List.{filter, range_with_len}
use Rattle.std.proofs.lemmas.Bool.{cases_eq, and_parts}
use Rattle.std.proofs.lemmas.Nat.Bits.{bit_at_or}
use Rattle.std.proofs.lemmas.List.{get_or-set_same, get_or-set_other}
use Rattle.std.proofs.lemmas.List.FromFn.{fill_by_all}
use Rattle.definitions.specs.Orders.{has, variables}
use Rattle.definitions.proofs.Lists.Orders.{has_filter}
use Rattle.definitions.proofs.Widths.Recurrence.{distinct_filter, distinct_variables}
use Rattle.subfunction_classes.specs.Dependence.{joined_mask}
use Rattle.subfunction_classes.proofs.CountedWidths.{length_filter_map}
use Rattle.edge_walks.specs.LowerClasses.{AreLowerMasks, pairs_with}
use Rattle.edge_walks.proofs.LowerPairs.{lowers_le}

module _ (masks : List ℕ) (x : ℕ) (ps : List (ℕ × ℕ)) where
  pub one_told : (labels : List ℕ) (j lower before : ℕ) (pair : ℕ × ℕ) → j < length ps → lower < length labels → get_or ps j (0, 0) ≡ pair → pair.0 ≡ lower →
      before ≡ get_or labels lower 0 → AreLowerMasks masks x ps labels → AreLowerMasks masks x ps (set labels lower (bit_or before (joined_mask masks x pair)))
  one_told labels j lower before pair l within is low b h c y bit = elim (cases_eq c lower) [
    | inl here ↦
        let e = ap (λ k. get_or (set labels lower (bit_or before (joined_mask masks x pair))) k 0) here
        ∙ get_or-set_same labels lower (bit_or before (joined_mask masks x pair)) 0 within in
        elim (cases_eq (bit_at before y) 1) [
          | inl old ↦ h c y (ap (λ k. bit_at (get_or labels k 0) y) here ∙ sym (ap (λ k. bit_at k y) b) ∙ old)
          | inr new ↦ (
            j,
            l,
            ap (λ (p : ℕ × ℕ). p.0) is ∙ low ∙ sym here,
            ap (λ p. bit_at (joined_mask masks x p) y) is ∙ omega (arith, ap (λ k. bit_at k y) e ∙ bit_at_or before (joined_mask masks x pair) y),
          )
        ]
    | inr other ↦ h c y (sym (ap (λ k. bit_at k y) (get_or-set_other labels lower c (bit_or before (joined_mask masks x pair)) 0 other)) ∙ bit)
  ]

  -- those with one variable
  pub told_le : (labels : List ℕ) (y : ℕ) → AreLowerMasks masks x ps labels → length (filter (λ m. eqb (bit_at m y) 1) labels) ≤ pairs_with masks x y ps
  unfolding pairs_with
  told_le labels y h =
      let n = length labels in
      let e = ap (λ ms. length (filter (λ m. eqb (bit_at m y) 1) ms)) (fill_by_all (λ c. get_or labels c 0) labels n 0 refl (λ c l. refl))
      ∙ length_filter_map (λ m. eqb (bit_at m y) 1) (λ c. get_or labels c 0) (range_with_len 0 n) in
      let m = lowers_le ps (λ p. eqb (bit_at (joined_mask masks x p) y) 1) (filter (λ c. eqb (bit_at (get_or labels c 0) y) 1) (range_with_len 0 n))
      (distinct_filter (λ c. eqb (bit_at (get_or labels c 0) y) 1) (variables n) (distinct_variables n))
      (λ c k.
      let b = and_parts (has (range_with_len 0 n) c) (eqb (bit_at (get_or labels c 0) y) 1)
      (sym (has_filter (λ c. eqb (bit_at (get_or labels c 0) y) 1) (range_with_len 0 n) c) ∙ k) in
      let s = h c y (eqb-true _ 1 b.1) in
      (s.0, s.1, s.2, eq-eqb _ 1 s.3)) in
      omega arith
