-- One set more on the way.
--     start_all, own_all, parent_all, more_all      what holds of the sets on the way to a set
--     parent_ready      that the pairs of the set without its lowest variable can be numbered
--     values_made, classes_made      the set's table, of values or of classes
use Rattle.std.proofs.Common.{◌≡◌, ℕ, ◌+◌, ◌-◌, ◌*◌, ◌/◌, ◌^◌, ◌<◌, ◌≤◌, inl, inr, false, ◌≢◌, ◌%◌, List, map, count_ones, length, get_or, sym, ap, ap₂, ◌∙◌, subst, arith, zero-mul}
use Rattle.std.specs.List.{range_with_len}
use Rattle.std.proofs.lemmas.Bool.{cases_lt}
use Rattle.std.proofs.lemmas.List.FromFn.{fill_by_all}
use Rattle.std.proofs.lemmas.Nat.{ones_cat, pow_pos}
use Rattle.std.proofs.lemmas.Nat.Bits.{bit_at_above}
use Rattle.std.proofs.Math.Nat.{div-one, zero-div}
use Rattle.definitions.specs.Orders.{has, members}
use Rattle.definitions.specs.Problems.{TruthTables}
use Rattle.definitions.specs.Widths.{same_pair}
use Rattle.definitions.proofs.Bits.Ones.{ones-members}
use Rattle.std.specs.Set.{distinct_count}
use Rattle.subfunction_classes.specs.Numbering.{ranks}
use Rattle.subfunction_classes.specs.Dependence.{joined_mask}
use Rattle.subfunction_classes.specs.PairTables.{AllBelow, IsPaired, NumbersPairs}
use Rattle.subfunction_classes.specs.Places.{pair_at, pairs}
use Rattle.subfunction_classes.specs.Table.{ClassesOf, HoldsClasses, classes_of, free_below, set_of}
use Rattle.subfunction_classes.proofs.OneMoreVariable.{IsReady, is_ready, holds_more}
use Rattle.subfunction_classes.proofs.HighSets.{free_all, high_new, high_or, step_down}
use mathlib.Core.List.{map-map}
use Rattle.small_search.specs.Joining.{AreJoined}
use Rattle.small_search.specs.Values.{size_of, set_values}
use Rattle.small_search.proofs.LowestVariables.{IsLowest, no_ones, parent_back, parent_free, parent_is, size_more, way_above, way_own}
use Rattle.small_search.proofs.ValueLaws.{joined}
use Rattle.small_search.proofs.ValueSteps.{members_more, values_below, values_step, whole_pairs}

-- what holds of the sets on the way to a set, and of their sizes
pub start_all : (H : ℕ → ℕ → Type 0) → H 0 0 → (k : ℕ) → H (0 / 2 ^ k * 2 ^ k) (count_ones (0 / 2 ^ k))
start_all H first k = at (0 / 2 ^ k) (zero-div (2 ^ k))
  where
    at : (part : ℕ) → part ≡ 0 → H (part * 2 ^ k) (count_ones part)
    at part e =
        subst (λ (i : ℕ). H i (count_ones part)) (sym (ap (λ i. i * 2 ^ k) e ∙ zero-mul (2 ^ k)))
        (subst (λ (i : ℕ). H 0 i) (sym (ap count_ones e ∙ no_ones)) first)

pub own_all : (H : ℕ → ℕ → Type 0) (mask : ℕ) → ((k : ℕ) → H (mask / 2 ^ k * 2 ^ k) (count_ones (mask / 2 ^ k))) → H mask (count_ones mask)
own_all H mask h =
    subst (λ (i : ℕ). H i (count_ones mask)) (let e : mask * 1 ≡ mask = omega arith in e)
    (subst (λ (i : ℕ). H (i * 1) (count_ones i)) (div-one mask) (h 0))

ones_shifted : (a k : ℕ) → count_ones (a * 2 ^ k) ≡ count_ones a
ones_shifted a k =
    let z : a * 2 ^ k ≡ a * 2 ^ k + 0 = omega arith in
    let o = ap count_ones z ∙ ones_cat k a 0 (pow_pos k) in
    omega (arith, o, no_ones)

module _ (mask x size : ℕ) (low : IsLowest mask x) (size_is : size ≡ count_ones mask) (H : ℕ → ℕ → Type 0)
    (path : (k : ℕ) → H ((mask - 1) / 2 ^ k * 2 ^ k) (count_ones ((mask - 1) / 2 ^ k))) where
  pub parent_all : H (mask - 2 ^ x) (size - 1)
  parent_all =
      let s : count_ones ((mask - 1) / 2 ^ x) ≡ size - 1 = omega (arith, size_more mask x low, size_is) in
      subst (λ (i : ℕ). H i (size - 1)) (parent_is mask x low) (subst (λ (i : ℕ). H ((mask - 1) / 2 ^ x * 2 ^ x) i) s (path x))

  -- where only what stands at the size is another
  pub more_all : (H' : ℕ → ℕ → Type 0) → ((set i : ℕ) → i ≢ size → count_ones set ≡ i → H set i → H' set i) → H' mask size →
      (k : ℕ) → H' (mask / 2 ^ k * 2 ^ k) (count_ones (mask / 2 ^ k))
  more_all H' others own k = elim (cases_lt x k) [ inl above ↦ kept above | inr le ↦ here le ]
    where
      here : k ≤ x → H' (mask / 2 ^ k * 2 ^ k) (count_ones (mask / 2 ^ k))
      here le =
          let w = way_own mask x low k le in
          subst (λ (i : ℕ). H' i (count_ones (mask / 2 ^ k))) (sym w.0) (subst (λ (i : ℕ). H' mask i) (size_is ∙ sym w.1) own)

      kept : x < k → H' (mask / 2 ^ k * 2 ^ k) (count_ones (mask / 2 ^ k))
      kept lt =
          let w = way_above mask x low k lt in
          let other : count_ones (mask / 2 ^ k) ≢ size = λ s. (let f : ⊥ = omega (arith, s, w.1, size_is) in f) in
          others (mask / 2 ^ k * 2 ^ k) (count_ones (mask / 2 ^ k)) other (ones_shifted (mask / 2 ^ k) k)
          (subst (λ (j : ℕ). H (j * 2 ^ k) (count_ones j)) (sym w.0) (path k))

module _ (p : TruthTables) (mask x : ℕ) (low : IsLowest mask x) (within : mask < 2 ^ p.inputs) where
  abbrev parent : ClassesOf
  parent = classes_of p (mask - 2 ^ x)

  pub inside : x < p.inputs
  inside = elim (cases_lt x p.inputs) [ inl l ↦ l | inr g ↦ absurd (omega (arith, bit_at_above mask p.inputs x within g, low.bit)) ]

  free : (mask - 2 ^ x) % 2 ^ (x + 1) ≡ 0
  free = parent_free mask x low

  new : has (set_of parent) x ≡ false
  new = high_new p.inputs (mask - 2 ^ x) x free

  rank_is : free_below (mask - 2 ^ x) x ≡ x
  rank_is = free_all (mask - 2 ^ x) x (step_down (mask - 2 ^ x) x free).0

  -- as many members less one
  pub size_less : count_ones (mask - 2 ^ x) + 1 ≡ count_ones mask
  size_less =
      let m = ap length (members_more p mask x low within) in
      let a = ones-members p.inputs mask within in
      let b = ones-members p.inputs (mask - 2 ^ x) (omega (arith, within)) in
      omega (arith, m, a, b)

  module _ (numbers masks : List ℕ) (h : HoldsClasses (classes_of p (mask - 2 ^ x)) numbers masks) where
    pub parent_ready : IsReady numbers masks x
    parent_ready = is_ready parent x inside new numbers masks x h (sym rank_is)

    pub classes_made : (numbered joined : List ℕ) → NumbersPairs masks x (pairs numbers (2 ^ x)) numbered joined →
        HoldsClasses (classes_of p mask) numbered joined
    classes_made numbered joined made =
        let r = ap (λ (k : ℕ). pairs numbers (2 ^ k)) (sym rank_is) in
        let more = holds_more parent x inside new numbers masks numbered joined h
        (subst (λ ps. numbered ≡ ranks same_pair ps) r made.numbers_are)
        (subst (λ ps. length joined ≡ distinct_count same_pair ps) r made.many)
        (subst (λ ps. map (λ c. get_or joined c 0) numbered ≡ map (joined_mask masks x) ps) r made.labels) in
        subst (λ (i : ℕ). HoldsClasses (classes_of p i) numbered joined) (high_or (mask - 2 ^ x) x free ∙ parent_back mask x low) more

  -- the values of so many variables
  pub size_is : (k : ℕ) → count_ones (mask - 2 ^ x) ≡ k → size_of (members p.inputs (mask - 2 ^ x)) ≡ 2 ^ 2 ^ k
  size_is k e = ap (λ i. 2 ^ 2 ^ i) (sym (ones-members p.inputs (mask - 2 ^ x) (omega (arith, within))) ∙ e)

  module _ (vs : List ℕ) (k : ℕ) (are : vs ≡ set_values p (mask - 2 ^ x)) (size : count_ones (mask - 2 ^ x) ≡ k) where
    pub paired : p.inputs ≤ 16 → length vs ≤ 2 ^ 20 → IsPaired vs x
    paired few_inputs few =
        let i = inside in
        let w = whole_pairs p mask x low within in
        record { small_rank = omega (arith, i, few_inputs); short = omega (arith, few); whole = (w.0, ap length are ∙ w.1) }

    pub below : AllBelow vs (2 ^ 2 ^ k)
    below i l =
        subst (λ (c : ℕ). get_or vs i 0 < c) (size_is k size)
        (subst (λ (us : List ℕ). get_or us i 0 < size_of (members p.inputs (mask - 2 ^ x))) (sym are)
        (values_below p (mask - 2 ^ x) i (subst (λ (us : List ℕ). i < length us) are l)))

    pub values_made : (made : List ℕ) → AreJoined vs x (2 ^ 2 ^ k) made → made ≡ set_values p mask
    unfolding pairs
    values_made made h =
        fill_by_all (λ j. joined (2 ^ 2 ^ k) (pair_at vs (2 ^ x) j)) made (length vs / 2) 0 h.long (λ j l. h.each j (let m = h.long in omega (arith, l, m)))
        ∙ sym (map-map (joined (2 ^ 2 ^ k)) (pair_at vs (2 ^ x)) (range_with_len 0 (length vs / 2)))
        ∙ ap₂ (λ c us. map (joined c) (pairs us (2 ^ x))) (sym (size_is k size)) are
        ∙ sym (values_step p mask x low within)
