-- Values of a set, from those of the set without its lowest variable.
--     fresh_members      the members of a set, each once
--     members_enough      more variables than a set's don't matter
--     members_lowest      a set's members are its lowest variable and the others
--     values_step      its values are the joined pairs of theirs
--     among_at      where an element stands
--     values_below      a set's values are below the number of all
--     start_values      the values over the empty set
--     told_of      they tell its classes and widths
--     holds_classes      numbers of pairs of values and their masks are its class table
use Rattle.std.proofs.Common.{◌≡◌, ℕ, zero, suc, ◌+◌, ◌-◌, ◌*◌, ◌/◌, ◌%◌, ◌^◌, ◌<◌, ◌≤◌, Bool, true, false, cond, ◌||◌, inl, inr, List, [], ◌∷◌, ◌++◌, map, length, reverse, get_or, refl, sym, ap, ap₂, ◌∙◌, subst, arith, nat_eq, eqb, ne_eqb, eq-eqb, bit_or}
use Rattle.std.specs.Int.{bit_at}
use Rattle.std.specs.List.{filter, range_with_len}
use Rattle.std.specs.Set.{distinct_count}
use Rattle.std.proofs.lemmas.Bool.{cases_lt}
use Rattle.std.proofs.lemmas.List.{append-nil, length-map, map-id}
use Rattle.std.proofs.lemmas.Nat.{pow_pos, div-add-mod'}
use Rattle.std.proofs.lemmas.List.Elements.{filter-append}
use Rattle.std.proofs.lemmas.Nat.Bits.{bit_at_above, bit_at_or, bit_at-pow_other, bit_at-zero, bit_at_cat_low}
use Rattle.definitions.specs.Functions.{Function, table, same_table, weight}
use Rattle.definitions.specs.Levels.{reach}
use Rattle.definitions.specs.Orders.{has, members, variables}
use Rattle.definitions.specs.Problems.{TruthTables, functions}
use Rattle.definitions.specs.Widths.{outside, same_pair, class_numbers, entries}
use Rattle.definitions.proofs.Functions.Tables.{same_table_decides}
use Rattle.definitions.proofs.Lists.Ranges.{range_append}
use Rattle.definitions.proofs.Lists.Sets.{Among, nat_decides}
use Rattle.definitions.proofs.Widths.Cells.{members_zero}
use Rattle.definitions.proofs.Widths.ClassPairs.{count_alike, pair_decides}
use Rattle.subfunction_classes.specs.Dependence.{AreMasks}
use Rattle.subfunction_classes.specs.Numbering.{ranks}
use Rattle.subfunction_classes.specs.Places.{pairs}
use Rattle.subfunction_classes.specs.Table.{HoldsClasses, classes_of}
use Rattle.subfunction_classes.proofs.Compaction.{step_of, filter_range_same, tops}
use Rattle.subfunction_classes.specs.Values.{values_of as values_at_points}
use Rattle.subfunction_classes.proofs.Constants.{outside_none, value_of, values_reached}
use Rattle.subfunction_classes.proofs.OneMoreVariable.{step_is}
use Rattle.subfunction_classes.proofs.StartClasses.{values_are}
use Rattle.subfunction_classes.proofs.RankLaws.{ranks_alike}
use Rattle.subfunction_classes.proofs.HighSets.{free_all, high_new, high_or, step_down}
use mathlib.Core.List.{map-map}
use Rattle.small_search.specs.ClassesOfValues.{NumbersValues}
use Rattle.small_search.specs.Values.{size_of, value_over, values, set_values, mask_over}
use Rattle.small_search.proofs.LowestVariables.{IsLowest, parent_back, parent_free}
use Rattle.small_search.proofs.ValueLaws.{AreFresh, AreTold, joined, joined_apart, length_values, pair_among, told, value_small, values_more}

-- ---- members

not_later : (p : ℕ → Bool) (a b k : ℕ) → a < b → has (filter p (range_with_len b k)) a ≡ false
not_later p a b zero l = refl
not_later p a b (suc k) l = by (p b) (not_later p a (b + 1) k (omega arith))
  where
    by : (c : Bool) → has (filter p (range_with_len (b + 1) k)) a ≡ false →
        has (cond c (b ∷ filter p (range_with_len (b + 1) k)) (filter p (range_with_len (b + 1) k))) a ≡ false
    by true h = ap₂ (λ c d. c || d) (ne_eqb a b (λ e. let f : ⊥ = omega (arith, e, l) in f)) h
    by false h = h

fresh_range : (n : ℕ) (p : ℕ → Bool) (a k : ℕ) → a + k ≤ n → AreFresh n (filter p (range_with_len a k))
fresh_range n p a zero l = tt
fresh_range n p a (suc k) l = by (p a) (fresh_range n p (a + 1) k (omega arith))
  where
    by : (c : Bool) → AreFresh n (filter p (range_with_len (a + 1) k)) →
        AreFresh n (cond c (a ∷ filter p (range_with_len (a + 1) k)) (filter p (range_with_len (a + 1) k)))
    by true h = (omega arith, not_later p a (a + 1) k (omega arith), h)
    by false h = h

pub fresh_members : (n mask : ℕ) → AreFresh n (members n mask)
unfolding members
fresh_members n mask = fresh_range n (λ y. eqb (bit_at mask y) 1) 0 n (omega arith)

filter_none : (p : ℕ → Bool) (a k : ℕ) → ((y : ℕ) → a ≤ y → y < a + k → p y ≡ false) → filter p (range_with_len a k) ≡ []
filter_none p a zero h = refl
filter_none p a (suc k) h =
    ap (λ b. cond b (a ∷ filter p (range_with_len (a + 1) k)) (filter p (range_with_len (a + 1) k))) (h a (omega arith) (omega arith))
    ∙ filter_none p (a + 1) k (λ y l m. h y (omega arith) (omega arith))

-- variables above a set's don't matter
pub members_enough : (n m set : ℕ) → n ≤ m → set < 2 ^ n → members m set ≡ members n set
unfolding members
members_enough n m set le small =
    let e : m ≡ n + (m - n) = omega (arith, le) in
    ap (λ k. filter (λ y. eqb (bit_at set y) 1) (range_with_len 0 k)) e
    ∙ ap (filter (λ y. eqb (bit_at set y) 1)) (range_append 0 n (m - n))
    ∙ filter-append (λ y. eqb (bit_at set y) 1) (range_with_len 0 n) (range_with_len (0 + n) (m - n))
    ∙ ap (λ us. filter (λ y. eqb (bit_at set y) 1) (range_with_len 0 n) ++ us)
    (filter_none (λ y. eqb (bit_at set y) 1) (0 + n) (m - n) (λ y l h. ap (λ k. eqb k 1) (bit_at_above set n y small (omega (arith, l)))))
    ∙ append-nil (filter (λ y. eqb (bit_at set y) 1) (range_with_len 0 n))

-- a set without variables below x has no bits there
bits_none : (set x y : ℕ) → set % 2 ^ x ≡ 0 → y < x → bit_at set y ≡ 0
bits_none set x y e l =
    ap (λ k. bit_at k y) (let d = div-add-mod' set (2 ^ x) in let f : set ≡ set / 2 ^ x * 2 ^ x + 0 = omega (arith, d, e) in f)
    ∙ bit_at_cat_low (set / 2 ^ x) x 0 y l ∙ bit_at-zero y

module _ (n mask x : ℕ) (low : IsLowest mask x) (inside : x < n) where
  rest : ℕ
  rest = mask - 2 ^ x

  with_x : bit_or (mask - 2 ^ x) (2 ^ x) ≡ mask
  with_x = high_or (mask - 2 ^ x) x (parent_free mask x low) ∙ parent_back mask x low

  rest_none : (y : ℕ) → y < x + 1 → bit_at (mask - 2 ^ x) y ≡ 0
  rest_none y l = bits_none (mask - 2 ^ x) (x + 1) y (parent_free mask x low) l

  other_bit : (y : ℕ) → (y ≡ x → ⊥) → bit_at mask y ≡ bit_at (mask - 2 ^ x) y
  other_bit y ne = ap (λ k. bit_at k y) (sym with_x) ∙ bit_at_or (mask - 2 ^ x) (2 ^ x) y
      ∙ (let z = bit_at-pow_other x y ne in omega (arith, z))

  all : range_with_len 0 n ≡ range_with_len 0 x ++ x ∷ range_with_len (x + 1) (n - suc x)
  all =
      let e : n ≡ x + suc (n - suc x) = omega arith in
      ap (range_with_len 0) e ∙ range_append 0 x (suc (n - suc x))
      ∙ ap (λ a. range_with_len 0 x ++ a ∷ range_with_len (a + 1) (n - suc x)) (let f : 0 + x ≡ x = omega arith in f)

  parts : (set : ℕ) → set % 2 ^ x ≡ 0 →
      members n set ≡ cond (eqb (bit_at set x) 1) (x ∷ filter (λ y. eqb (bit_at set y) 1) (range_with_len (x + 1) (n - suc x)))
      (filter (λ y. eqb (bit_at set y) 1) (range_with_len (x + 1) (n - suc x)))
  unfolding members
  parts set e =
      ap (filter (λ y. eqb (bit_at set y) 1)) all
      ∙ filter-append (λ y. eqb (bit_at set y) 1) (range_with_len 0 x) (x ∷ range_with_len (x + 1) (n - suc x))
      ∙ ap (λ us. us ++ filter (λ y. eqb (bit_at set y) 1) (x ∷ range_with_len (x + 1) (n - suc x)))
      (filter_none (λ y. eqb (bit_at set y) 1) 0 x (λ y l m. ap (λ k. eqb k 1) (bits_none set x y e (omega arith))))

  pub members_lowest : members n mask ≡ x ∷ members n (mask - 2 ^ x)
  members_lowest =
      parts mask low.below
      ∙ ap (λ b. cond b (x ∷ filter (λ y. eqb (bit_at mask y) 1) (range_with_len (x + 1) (n - suc x)))
      (filter (λ y. eqb (bit_at mask y) 1) (range_with_len (x + 1) (n - suc x)))) (eq-eqb (bit_at mask x) 1 low.bit)
      ∙ ap (λ us. x ∷ us) (filter_range_same (λ y. eqb (bit_at mask y) 1) (λ y. eqb (bit_at (mask - 2 ^ x) y) 1) (x + 1) (n - suc x)
      (λ y l m. ap (λ k. eqb k 1) (other_bit y (λ e. let f : ⊥ = omega (arith, e, l) in f))))
      ∙ ap (λ us. x ∷ us) (sym (parts (mask - 2 ^ x) (step_down (mask - 2 ^ x) x (parent_free mask x low)).0
      ∙ ap (λ b. cond b (x ∷ filter (λ y. eqb (bit_at (mask - 2 ^ x) y) 1) (range_with_len (x + 1) (n - suc x)))
      (filter (λ y. eqb (bit_at (mask - 2 ^ x) y) 1) (range_with_len (x + 1) (n - suc x))))
      (ap (λ k. eqb k 1) (rest_none x (omega arith)))))

pub told_of : (p : TruthTables) (mask : ℕ) → AreTold p.inputs (functions p) (members p.inputs mask)
told_of p mask = told p.inputs (functions p) (members p.inputs mask) (fresh_members p.inputs mask)

pub values_below : (p : TruthTables) (mask i : ℕ) → i < length (set_values p mask) → get_or (set_values p mask) i 0 < size_of (members p.inputs mask)
unfolding values
values_below p mask i l =
    let S = members p.inputs mask in
    let R = reach (functions p) (reverse (outside p.inputs S)) in
    let m = length-map R (value_over p.inputs S) in
    let at = some R i (omega (arith, l, m)) in
    subst (λ (v : ℕ). v < size_of S) (sym at.1) (value_small p.inputs S at.0)
  where
    some : (R : List Function) (j : ℕ) → j < length R →
        (g : Function) × (get_or (map (value_over p.inputs (members p.inputs mask)) R) j 0 ≡ value_over p.inputs (members p.inputs mask) g)
    some [] j k = absurd (omega arith)
    some (g ∷ R) zero k = (g, refl)
    some (g ∷ R) (suc j) k = some R j (omega arith)

pub among_at : (xs : List ℕ) (v : ℕ) → Among v xs → (i : ℕ) × (i < length xs) × (get_or xs i 0 ≡ v)
among_at [] v a = absurd a
among_at (x ∷ xs) v a = elim a [
  | inl e ↦ (0, omega arith, sym e)
  | inr r ↦ let s = among_at xs v r in (suc s.0, omega (arith, s.1), s.2)
]

-- over the empty set they are the values at all points
pub start_values : (p : TruthTables) → set_values p 0 ≡ map weight (values_at_points p)
unfolding values value_over
start_values p =
    ap (λ S. map (value_over p.inputs S) (reach (functions p) (reverse (outside p.inputs S)))) (members_zero p.inputs)
    ∙ ap (λ o. map (value_over p.inputs []) (reach (functions p) (reverse o))) (outside_none p.inputs)
    ∙ sym (map-map weight (value_of p.inputs) (reach (functions p) (reverse (variables p.inputs))))
    ∙ ap (map weight) (values_reached p.inputs (functions p) ∙ values_are p)

-- ---- one variable more

module _ (p : TruthTables) (mask x : ℕ) (low : IsLowest mask x) (within : mask < 2 ^ p.inputs) where
  n : ℕ
  n = p.inputs

  S : List ℕ
  S = members p.inputs (mask - 2 ^ x)

  pub inside : x < p.inputs
  inside = elim (cases_lt x p.inputs) [ inl l ↦ l | inr g ↦ absurd (omega (arith, bit_at_above mask p.inputs x within g, low.bit)) ]

  free : (mask - 2 ^ x) % 2 ^ (x + 1) ≡ 0
  free = parent_free mask x low

  new : has (members p.inputs (mask - 2 ^ x)) x ≡ false
  new = high_new p.inputs (mask - 2 ^ x) x free

  pub step : step_of (members p.inputs (mask - 2 ^ x)) x ≡ 2 ^ x
  step = sym (step_is (classes_of p (mask - 2 ^ x)) x inside new) ∙ ap (λ k. 2 ^ k) (free_all (mask - 2 ^ x) x (step_down (mask - 2 ^ x) x free).0)

  pub members_more : members p.inputs mask ≡ x ∷ members p.inputs (mask - 2 ^ x)
  members_more = members_lowest p.inputs mask x low inside

  pub values_step : set_values p mask ≡ map (joined (size_of (members p.inputs (mask - 2 ^ x)))) (pairs (set_values p (mask - 2 ^ x)) (2 ^ x))
  values_step =
      ap (values p.inputs (functions p)) members_more
      ∙ values_more p.inputs (functions p) (members p.inputs (mask - 2 ^ x)) x inside new
      ∙ ap (λ s. map (joined (size_of (members p.inputs (mask - 2 ^ x)))) (pairs (set_values p (mask - 2 ^ x)) s)) step

  pub whole_pairs : (blocks : ℕ) × (length (set_values p (mask - 2 ^ x)) ≡ blocks * (2 * 2 ^ x))
  whole_pairs = (
    length (tops p.inputs (members p.inputs (mask - 2 ^ x)) x inside new (functions p)),
    length_values p.inputs (functions p) (members p.inputs (mask - 2 ^ x)) x inside new
        ∙ ap (λ s. length (tops p.inputs (members p.inputs (mask - 2 ^ x)) x inside new (functions p)) * (2 * s)) step,
  )

  module _ (numbers masks : List ℕ) (made : NumbersValues (members p.inputs mask) (set_values p (mask - 2 ^ x)) x numbers masks)
      (size : size_of (members p.inputs (mask - 2 ^ x)) ≡ 256) where
    ps : List (ℕ × ℕ)
    ps = pairs (set_values p (mask - 2 ^ x)) (2 ^ x)

    values_joined : set_values p mask ≡ map (joined 256) ps
    unfolding ps
    values_joined = values_step ∙ ap (λ c. map (joined c) (pairs (set_values p (mask - 2 ^ x)) (2 ^ x))) size

    pairs_apart : (q r : ℕ × ℕ) → Among q ps → Among r ps → (joined 256 q ≡ joined 256 r → q ≡ r) × (q ≡ r → joined 256 q ≡ joined 256 r)
    unfolding ps
    pairs_apart q r a b =
        let vs = set_values p (mask - 2 ^ x) in
        let w = whole_pairs in
        let qa = pair_among vs (2 ^ x) w.0 (pow_pos x) w.1 q a in
        let ra = pair_among vs (2 ^ x) w.0 (pow_pos x) w.1 r b in
        let ql = among_below q.0 qa.0 in
        let rl = among_below r.0 ra.0 in (
          λ e. let j = joined_apart q.0 q.1 r.0 r.1 256 (subst (λ c. q.0 < c) size ql) (subst (λ c. r.0 < c) size rl) e in
              λ i. (j.0 i, j.1 i),
          λ e. ap (joined 256) e,
        )
      where
        among_below : (v : ℕ) → Among v (set_values p (mask - 2 ^ x)) → v < size_of (members p.inputs (mask - 2 ^ x))
        among_below v a =
            let s = among_at (set_values p (mask - 2 ^ x)) v a in
            subst (λ u. u < size_of (members p.inputs (mask - 2 ^ x))) s.2 (values_below p (mask - 2 ^ x) s.0 s.1)

    classes : class_numbers p.inputs (functions p) (members p.inputs mask) ≡ numbers
    unfolding ps
    classes =
        (told_of p mask).classes ∙ ap (ranks nat_eq) values_joined
        ∙ ap (ranks nat_eq) refl
        ∙ ranks_joined
        ∙ sym made.numbers_are
      where
        ranks_joined : ranks nat_eq (map (joined 256) (pairs (set_values p (mask - 2 ^ x)) (2 ^ x))) ≡ ranks same_pair
            (pairs (set_values p (mask - 2 ^ x)) (2 ^ x))
        ranks_joined = ranks_alike nat_eq nat_decides same_pair pair_decides (joined 256) (λ q. q) (pairs (set_values p (mask - 2 ^ x)) (2 ^ x)) pairs_apart
            ∙ ap (ranks same_pair) (map-id (pairs (set_values p (mask - 2 ^ x)) (2 ^ x)))

    are_masks : AreMasks p.inputs (functions p) (members p.inputs mask) masks
    unfolding ps entries values
    are_masks =
        let t = told_of p mask in
        record {
          many = made.many
              ∙ sym (ap (distinct_count same_pair) (map-id (pairs (set_values p (mask - 2 ^ x)) (2 ^ x))))
              ∙ sym (count_alike nat_eq nat_decides same_pair pair_decides (joined 256) (λ q. q) (pairs (set_values p (mask - 2 ^ x)) (2 ^ x)) pairs_apart)
              ∙ sym (ap (distinct_count nat_eq) values_joined)
              ∙ count_alike nat_eq nat_decides same_table same_table_decides (value_over p.inputs (members p.inputs mask)) (table p.inputs)
              (reach (functions p) (reverse (outside p.inputs (members p.inputs mask)))) t.apart;
          labels = ap (map (λ c. get_or masks c 0)) classes ∙ made.labels
              ∙ sym (map-map (mask_over (members p.inputs mask)) (joined 256) (pairs (set_values p (mask - 2 ^ x)) (2 ^ x)))
              ∙ ap (map (mask_over (members p.inputs mask))) (sym values_joined) ∙ t.masks;
        }

    pub holds_classes : p.inputs ≤ 16 → length numbers ≤ 2 ^ 20 → HoldsClasses (classes_of p mask) numbers masks
    holds_classes few_inputs few = record { few_inputs = few_inputs; few = few; classes = sym classes; masks_are = are_masks }
