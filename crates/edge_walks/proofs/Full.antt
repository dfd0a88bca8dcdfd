-- Where all subfunctions over a set are distinct and depend on the whole set, so are those over each larger set.
--     full_of      how numbers and masks show it
--     full_more      with one more variable there are half as many
--     full_width      each width into the set is their count
use Rattle.std.proofs.Common.{◌≡◌, ◌≢◌, ℕ, zero, suc, ◌+◌, ◌*◌, ◌/◌, ◌%◌, ◌^◌, ◌<◌, ◌≤◌, Bool, true, cond, eqb, ne_eqb, List, ◌∷◌, length, get_or, set, replicate, bit_or, refl, sym, ap, ◌∙◌, subst, arith}
use Rattle.std.specs.Int.{bit_at}
use Rattle.std.specs.Int.Bits.{or_self}
use Rattle.std.specs.List.{filter, range_with_len}
use Rattle.std.proofs.lemmas.Bool.{and_parts}
use Rattle.std.proofs.lemmas.Nat.{pow_pos}
use Rattle.std.proofs.lemmas.List.{ext_get_or, get_or-replicate, length-replicate, set-get_or, replicate-append-replicate}
use Rattle.std.proofs.lemmas.List.FromFn.{length-range_with_len}
use Rattle.definitions.specs.Orders.{has, variables, without}
use Rattle.definitions.specs.Widths.{width}
use Rattle.definitions.proofs.Bits.Masks.{has_members, members_small}
use Rattle.definitions.proofs.Lists.Ranges.{range_at}
use Rattle.subfunction_classes.specs.Dependence.{joined_mask}
use Rattle.subfunction_classes.specs.Places.{low_place, pairs}
use Rattle.subfunction_classes.specs.Table.{functions_of, set_of}
use Rattle.subfunction_classes.proofs.DistinctClasses.{distinct_first}
use Rattle.subfunction_classes.proofs.CountedWidths.{width_is_dependent_classes}
use Rattle.subfunction_classes.specs.Made.{Made}
use Rattle.subfunction_classes.proofs.Firsts.{made_none, made_first, made_numbers, made_many, made_told}
use Rattle.subfunction_classes.proofs.Index.{length-pairs, pair_listed, pair_within}
use Rattle.edge_walks.specs.Tables.{HoldsRows, IsFull, TableOf, classes_at, rows_with}
use Rattle.edge_walks.proofs.ShortenedTables.{rows, rows_more}

pub full_of : (t : TableOf) (numbers masks : List ℕ) → HoldsRows t numbers masks → length masks ≡ length numbers →
    ((i : ℕ) → i < length numbers → get_or numbers i 0 ≡ i) →
    ((i : ℕ) → i < length masks → get_or masks i 0 ≡ t.set) → IsFull t (length masks)
full_of t numbers masks h e own full =
    subst (λ us. HoldsRows t us (replicate (length masks) t.set)) same_numbers (subst (HoldsRows t numbers) same_masks h)
  where
    same_numbers : numbers ≡ range_with_len 0 (length masks)
    same_numbers =
        ext_get_or 0 numbers (range_with_len 0 (length masks)) (sym e ∙ sym (length-range_with_len 0 (length masks)))
        (λ i l. own i l ∙ sym (range_at (length masks) i (omega arith)))

    same_masks : masks ≡ replicate (length masks) t.set
    same_masks =
        ext_get_or 0 masks (replicate (length masks) t.set) (sym (length-replicate (length masks) t.set))
        (λ i l. full i l ∙ sym (get_or-replicate (length masks) i t.set 0 l))

module _ (t : TableOf) (count : ℕ) (h : IsFull t count) (x : ℕ) (inside : x < t.problem.inputs) (below : x < t.level) (free : t.set % 2 ^ (x + 1) ≡ 0) where
  abbrev cs : List ℕ
  cs = range_with_len 0 count

  abbrev step : ℕ
  step = 2 ^ x

  abbrev ps : List (ℕ × ℕ)
  ps = pairs cs step

  abbrev union : ℕ
  union = bit_or t.set (2 ^ x)

  abbrev join : ℕ × ℕ → ℕ
  join = joined_mask (replicate count t.set) x

  whole : (blocks : ℕ) × (length cs ≡ blocks * (2 * step))
  whole = rows t x inside below free cs (replicate count t.set) h

  half : length ps ≡ count / 2
  half = length-pairs cs step ∙ ap (λ k. k / 2) (length-range_with_len 0 count)

  apart : (i j : ℕ) → i < j → j < length cs → get_or cs i 0 ≢ get_or cs j 0
  apart i j a b e = grind (arith, length-range_with_len, range_at)

  within : (j : ℕ) → j < count / 2 → low_place step j + step < count
  within j l =
      let n = length-range_with_len 0 count in
      omega (arith, pair_within step whole.0 (length cs) j (pow_pos x) whole.1 (omega arith))

  pair_is : (j : ℕ) → j < count / 2 → get_or ps j (0, 0) ≡ (low_place step j, low_place step j + step)
  pair_is j l = grind (arith, length-range_with_len, within, range_at, step, pair_listed, cs)

  join_is : (j : ℕ) → j < count / 2 → union ≡ join (get_or ps j (0, 0))
  join_is j l =
      let some = pow_pos x in
      let b = get_or-replicate count (low_place step j + step) t.set 0 (within j l) in
      sym (ap join (pair_is j l)
      ∙ (λ i. bit_or (bit_or ((get_or-replicate count (low_place step j) t.set 0 (omega arith)) i) (b i))
      (cond (ne_eqb (low_place step j) (low_place step j + step) (λ e. let f : ⊥ = omega arith in f) i) 0 (2 ^ x)))
      ∙ ap (λ z. bit_or z (2 ^ x)) (or_self t.set))

  -- the numbers of so many pairs
  abbrev out : List ℕ
  out = range_with_len 0 (count / 2)

  same_out : (j : ℕ) → j < count / 2 → set out j (length (replicate j union)) ≡ out
  same_out j l = ap (set out j) (length-replicate j union ∙ sym (range_at (count / 2) j l)) ∙ set-get_or out j 0

  made : (j : ℕ) → j ≤ count / 2 → Made 0 ps join out (replicate j union) j
  made zero l = made_none 0 ps join out (length-range_with_len 0 (count / 2) ∙ sym half)
  made (suc j) l =
      let n = half in
      let d = length-range_with_len 0 count in
      let m = made_first 0 ps join out (replicate j union) j union (omega arith)
      (distinct_first cs x whole apart j (omega arith)) (join_is j (omega arith)) (made j (omega arith)) in
      subst (λ k. Made 0 ps join out (replicate k union) k) (omega arith)
      (subst (λ us. Made 0 ps join us (replicate (j + 1) union) (j + 1)) (same_out j (omega arith))
      (subst (λ us. Made 0 ps join (set out j (length (replicate j union))) us (j + 1)) (replicate-append-replicate j 1 union) m))

  pub full_more : IsFull (rows_with t x) (count / 2)
  full_more =
      let n = half in
      let m = made (count / 2) (omega arith) in
      rows_more t x inside below free cs (replicate count t.set) h out (replicate (count / 2) union)
      (record {
        numbers_are = made_numbers 0 ps join out (replicate (count / 2) union) (count / 2) (omega arith) m;
        many = made_many 0 ps join out (replicate (count / 2) union) (count / 2) (omega arith) m;
        labels = made_told 0 ps join out (replicate (count / 2) union) (count / 2) (omega arith) m;
      })

all_kept : (p : ℕ → Bool) (v n : ℕ) → p v ≡ true → length (filter p (replicate n v)) ≡ n
all_kept p v zero e = refl
all_kept p v (suc n) e = ap (λ b. length (cond b (v ∷ filter p (replicate n v)) (filter p (replicate n v)))) e ∙ ap suc (all_kept p v n e)

pub full_width : (t : TableOf) (count x : ℕ) → IsFull t count → has (set_of (classes_at t)) x ≡ true →
    width t.problem.inputs (functions_of (classes_at t)) (without x (set_of (classes_at t))) x ≡ count
full_width t count x h inside =
    width_is_dependent_classes t.problem.inputs (functions_of (classes_at t)) (set_of (classes_at t)) (replicate count t.set) x
    (members_small t.problem.inputs t.set x inside) inside h.holds.masks_are
    ∙ all_kept (λ m. eqb (bit_at m x) 1) t.set count bit
  where
    bit : eqb (bit_at t.set x) 1 ≡ true
    bit = (and_parts (has (variables t.problem.inputs) x) (eqb (bit_at t.set x) 1) (sym (has_members t.problem.inputs t.set x) ∙ inside)).1
