-- Where all subfunctions over a set are distinct and depend on all of it, so are those over each larger set.
--     distinct_more      with one more variable there are half as many
--     distinct_row      each width into the set is their count
--     distinct_strips      how strips show it
use Rattle.std.proofs.Common.{◌≡◌, ℕ, suc, ◌+◌, ◌*◌, ◌/◌, ◌%◌, ◌^◌, ◌<◌, ◌≤◌, Bool, true, false, cond, eqb, eq-eqb, ne_eqb, inl, inr, List, [], ◌∷◌, Option, Some, None, map, length, get_or, bit_or, refl, sym, ap, ◌∙◌, subst, arith}
use Rattle.std.specs.Int.{bit_at}
use Rattle.std.specs.Int.Bits.{or_self}
use Rattle.std.specs.List.{filter, range_with_len}
use Rattle.std.proofs.Math.Nat.{add-mul-mod_self_right, add-mul-div_right, mod-eq_of_lt, div-eq_of_lt, div-lt_iff_lt-mul, mod-lt}
use Rattle.std.proofs.lemmas.Bool.{and_parts, cases_eq, cases_lt}
use Rattle.std.proofs.lemmas.Nat.{pow_pos}
use Rattle.std.proofs.lemmas.List.{length-map, get_or-map}
use Rattle.std.proofs.lemmas.List.FromFn.{length-range_with_len, get_or-map-range_with_len, length-map-range_with_len}
use Rattle.definitions.specs.Orders.{has, variables, without}
use Rattle.definitions.specs.Widths.{width}
use Rattle.definitions.proofs.Bits.Masks.{has_members}
use Rattle.definitions.proofs.Lists.Orders.{has_variables}
use Rattle.definitions.proofs.Lists.Ranges.{range_at}
use Rattle.subfunction_classes.specs.Dependence.{joined_mask}
use Rattle.subfunction_classes.specs.Places.{low_place, pairs}
use Rattle.compaction.specs.Rows.{width_wanted}
use Rattle.pair_numbering.specs.Keys.{TellsPairs}
use Rattle.subfunction_classes.specs.Strips.{unrolled}
use Rattle.compaction.specs.ValueStrips.{AreStrips}
use Rattle.compaction.specs.Strips.{AreDistinct, HoldsStrips, HoldsStripTable, masks_in_use, low_variables, HoldsKeys}
use Rattle.subfunction_classes.specs.Table.{ClassesOf, with_variable, functions_of, set_of, free_below}
use Rattle.subfunction_classes.proofs.CountedWidths.{length_filter_map}
use Rattle.subfunction_classes.proofs.Index.{length-pairs, pair_listed, pair_within}
use Rattle.compaction.proofs.KeyTables.{keys_ready, keys_by_names}
use Rattle.compaction.proofs.StripTables.{parts_of}
use Rattle.compaction.proofs.UnrolledTables.{same_by_places, length_unrolled, unrolled_at}
use Rattle.compaction.proofs.UsedNumbers.{in_use_same, width_by_use}

-- the same value so many times
same_list : ℕ → ℕ → List ℕ
same_list v n = map (λ _. v) (range_with_len 0 n)

same_at : (v n i : ℕ) → i < n → get_or (same_list v n) i 0 ≡ v
unfolding same_list
same_at v n i h = get_or-map-range_with_len (λ _. v) 0 n i i 0 h (omega arith)

length_same : (v n : ℕ) → length (same_list v n) ≡ n
unfolding same_list
length_same v n = length-map-range_with_len (λ _. v) 0 n

module _ (t : ClassesOf) (count : ℕ) (d : AreDistinct t count) (x : ℕ) (inside : x < t.problem.inputs) (new : has (set_of t) x ≡ false) where
  cs : List ℕ
  cs = range_with_len 0 count

  step : ℕ
  step = 2 ^ free_below t.set x

  whole : (blocks : ℕ) × (length (range_with_len 0 count) ≡ blocks * (2 * 2 ^ free_below t.set x))
  whole = (keys_ready t x inside new (range_with_len 0 count) d.masks (free_below t.set x) d.keys refl).whole

  many : length (pairs (range_with_len 0 count) (2 ^ free_below t.set x)) ≡ count / 2
  many = length-pairs (range_with_len 0 count) (2 ^ free_below t.set x) ∙ ap (λ k. k / 2) (length-range_with_len 0 count)

  -- the j-th pair
  pair_is : (j : ℕ) → j < count / 2 →
      get_or (pairs (range_with_len 0 count) (2 ^ free_below t.set x)) j (0, 0) ≡
      (low_place (2 ^ free_below t.set x) j, low_place (2 ^ free_below t.set x) j + 2 ^ free_below t.set x)
  pair_is j h =
      let l = length-range_with_len 0 count in
      let w = pair_within (2 ^ free_below t.set x) whole.0 (length (range_with_len 0 count)) j (pow_pos (free_below t.set x)) whole.1 (omega arith) in
      let a = range_at count (low_place (2 ^ free_below t.set x) j) (omega arith) in
      let b = range_at count (low_place (2 ^ free_below t.set x) j + 2 ^ free_below t.set x) (omega arith) in
      pair_listed (range_with_len 0 count) (2 ^ free_below t.set x) j (omega arith) ∙ (λ i. (a i, b i))

  -- a pair's place, from its lower part
  name : ℕ × ℕ → ℕ
  name p = p.0 / (2 * 2 ^ free_below t.set x) * 2 ^ free_below t.set x + p.0 % (2 * 2 ^ free_below t.set x)

  name_is : (j : ℕ) → j < count / 2 → name (get_or (pairs (range_with_len 0 count) (2 ^ free_below t.set x)) j (0, 0)) ≡ j
  unfolding name
  name_is j h = grind (arith, pow_pos, mod-lt, add-mul-div_right, div-eq_of_lt, add-mul-mod_self_right, mod-eq_of_lt, pair_is, parts_of)

  few_pairs : count / 2 ≤ 2 ^ 20
  few_pairs = (let f = d.keys.few in let l = length-range_with_len 0 count in omega arith)

  names : TellsPairs d.masks x (pairs (range_with_len 0 count) (2 ^ free_below t.set x)) (range_with_len 0 (count / 2))
      (same_list (bit_or t.set (2 ^ x)) (count / 2))
  names = record {
    name = name;
    numbers_are = same_by_places (range_with_len 0 (count / 2)) (map name (pairs (range_with_len 0 count) (2 ^ free_below t.set x)))
        (length-range_with_len 0 (count / 2) ∙ sym (length-map (pairs (range_with_len 0 count) (2 ^ free_below t.set x)) name ∙ many))
        (λ i h. let l = length-range_with_len 0 (count / 2) in let m = many in
        range_at (count / 2) i (omega arith)
        ∙ sym (get_or-map name (pairs (range_with_len 0 count) (2 ^ free_below t.set x)) i (0, 0) 0 (omega arith)
        ∙ name_is i (omega arith)));
    apart = λ i j a b e. let m = many in
        ap (λ k. get_or (pairs (range_with_len 0 count) (2 ^ free_below t.set x)) k (0, 0))
        (sym (name_is i (omega arith)) ∙ e ∙ name_is j (omega arith));
    below = λ i a. let m = many in let n = name_is i (omega arith) in let l = length_same (bit_or t.set (2 ^ x)) (count / 2) in omega arith;
    labels = λ i a.
        let m = many in
        let h : i < count / 2 = omega arith in
        let l = length-range_with_len 0 count in
        let w = pair_within (2 ^ free_below t.set x) whole.0 (length (range_with_len 0 count)) i (pow_pos (free_below t.set x)) whole.1 (omega arith) in
        let some = pow_pos (free_below t.set x) in
        ap (λ k. get_or (same_list (bit_or t.set (2 ^ x)) (count / 2)) k 0) (name_is i h) ∙ same_at (bit_or t.set (2 ^ x)) (count / 2) i h
        ∙ sym (ap (joined_mask d.masks x) (pair_is i h)
        ∙ (λ k. bit_or
        (bit_or (d.full (low_place (2 ^ free_below t.set x) i) (omega arith) k)
        (d.full (low_place (2 ^ free_below t.set x) i + 2 ^ free_below t.set x) (omega arith) k))
        (cond (ne_eqb (low_place (2 ^ free_below t.set x) i) (low_place (2 ^ free_below t.set x) i + 2 ^ free_below t.set x)
        (λ e. let f : ⊥ = omega arith in f) k)
        0 (2 ^ x)))
        ∙ ap (λ z. bit_or z (2 ^ x)) (or_self t.set));
    few = (let l = length_same (bit_or t.set (2 ^ x)) (count / 2) in let f = few_pairs in omega arith);
  }

  pub distinct_more : AreDistinct (with_variable t x) (count / 2)
  distinct_more = record {
    masks = same_list (bit_or t.set (2 ^ x)) (count / 2);
    exact = length_same (bit_or t.set (2 ^ x)) (count / 2);
    keys = keys_by_names t x inside new (range_with_len 0 count) d.masks d.keys whole (range_with_len 0 (count / 2))
        (same_list (bit_or t.set (2 ^ x)) (count / 2)) names;
    full = same_at (bit_or t.set (2 ^ x)) (count / 2);
  }

-- each width into the set is the count
filter_all : (p : ℕ → Bool) (xs : List ℕ) → ((i : ℕ) → i < length xs → p (get_or xs i 0) ≡ true) → length (filter p xs) ≡ length xs
filter_all p [] h = refl
filter_all p (x ∷ xs) h = ap (λ b. length (cond b (x ∷ filter p xs) (filter p xs))) (h 0 (omega arith))
    ∙ ap suc (filter_all p xs (λ i l. h (suc i) (omega arith)))

pub distinct_width : (t : ClassesOf) (count x : ℕ) → AreDistinct t count → x < t.problem.inputs → has (set_of t) x ≡ true →
    width t.problem.inputs (functions_of t) (without x (set_of t)) x ≡ count
unfolding masks_in_use
distinct_width t count x d small inside =
    width_by_use t.problem.inputs (functions_of t) (set_of t) (range_with_len 0 count) d.masks d.keys.below d.keys.classes d.keys.labels x small inside
    ∙ ap (λ us. length (filter (λ m. eqb (bit_at m x) 1) (map (λ k. get_or d.masks k 0) (filter (has (range_with_len 0 count)) us))))
    (ap (range_with_len 0) d.exact)
    ∙ ap (λ us. length (filter (λ m. eqb (bit_at m x) 1) (map (λ k. get_or d.masks k 0) us)))
    (in_use_same (has (range_with_len 0 count)) (λ _. true) count (λ k h. (has_variables count k).1 h) ∙ kept (range_with_len 0 count))
    ∙ length_filter_map (λ m. eqb (bit_at m x) 1) (λ k. get_or d.masks k 0) (range_with_len 0 count)
    ∙ filter_all (λ k. eqb (bit_at (get_or d.masks k 0) x) 1) (range_with_len 0 count) (λ i h.
    let l = length-range_with_len 0 count in
    ap (λ k. eqb (bit_at (get_or d.masks k 0) x) 1) (range_at count i (omega arith)) ∙ ap (λ m. eqb (bit_at m x) 1) (d.full i (omega arith)) ∙ bit)
    ∙ length-range_with_len 0 count
  where
    kept : (xs : List ℕ) → filter (λ _. true) xs ≡ xs
    kept [] = refl
    kept (y ∷ xs) = ap (λ us. y ∷ us) (kept xs)

    bit : eqb (bit_at t.set x) 1 ≡ true
    bit = (and_parts (has (variables t.problem.inputs) x) (eqb (bit_at t.set x) 1) (sym (has_members t.problem.inputs t.set x) ∙ inside)).1

pub distinct_row : (t : ClassesOf) (count : ℕ) → AreDistinct t count → (wanted x w : ℕ) → (bit_at wanted x ≡ 1 → has (set_of t) x ≡ true) →
    w ≡ cond (eqb (bit_at wanted x) 1) count 0 → w ≡ width_wanted t.problem t.set wanted x
unfolding width_wanted
distinct_row t count d wanted x w inside e = e ∙ elim (cases_eq (bit_at wanted x) 1) [
  | inl one ↦
      let s = inside one in
      let small : x < t.problem.inputs =
      (has_variables t.problem.inputs x).0
      (and_parts (has (variables t.problem.inputs) x) (eqb (bit_at t.set x) 1)
      (sym (has_members t.problem.inputs t.set x) ∙ s)).0 in
      ap (λ b. cond b count 0) (eq-eqb (bit_at wanted x) 1 one) ∙ sym (distinct_width t count x d small s)
      ∙ sym (ap (λ b. cond b (width t.problem.inputs (functions_of t) (without x (set_of t)) x) 0) (eq-eqb (bit_at wanted x) 1 one))
  | inr none ↦ ap (λ b. cond b count 0) (ne_eqb (bit_at wanted x) 1 none)
      ∙ sym (ap (λ b. cond b (width t.problem.inputs (functions_of t) (without x (set_of t)) x) 0) (ne_eqb (bit_at wanted x) 1 none))
]

-- strips that are named in order are as many as the runs
pub own_count : (outer numbers : List ℕ) (len : ℕ) (strips : AreStrips outer numbers len) →
    ((i : ℕ) → i < length outer → get_or outer i 0 ≡ i) → strips.count ≡ length outer
own_count outer numbers len strips own = grind (arith, cases_lt)

-- strips that show it
pub distinct_strips : (t : ClassesOf) (low : ℕ) (outer numbers masks : List ℕ) → HoldsStrips t low outer numbers masks →
    length masks ≡ length numbers → ((i : ℕ) → i < length outer → get_or outer i 0 ≡ i) →
    ((i : ℕ) → i < length numbers → get_or numbers i 0 ≡ i) → ((i : ℕ) → i < length masks → get_or masks i 0 ≡ t.set) → AreDistinct t (length numbers)
distinct_strips t low outer numbers masks h exact own counted full = record {
  masks = masks;
  exact = exact;
  keys = subst (λ us. HoldsKeys t us masks) same h.keys;
  full = λ i l. full i (omega arith);
}
  where
    len : ℕ
    len = 2 ^ free_below t.set low

    some : 0 < 2 ^ free_below t.set low
    some = pow_pos (free_below t.set low)

    count_is : h.strips.count ≡ length outer
    count_is = own_count outer numbers (2 ^ free_below t.set low) h.strips own

    same : unrolled outer numbers (2 ^ free_below t.set low) ≡ range_with_len 0 (length numbers)
    same =
        let u = length_unrolled outer numbers (2 ^ free_below t.set low) h.strips in
        let l = length-range_with_len 0 (length numbers) in
        let w = h.strips.whole ∙ ap (λ k. k * 2 ^ free_below t.set low) count_is in
        same_by_places (unrolled outer numbers (2 ^ free_below t.set low)) (range_with_len 0 (length numbers)) (omega arith) (λ i lt.
        let q : i / 2 ^ free_below t.set low < length outer = (div-lt_iff_lt-mul some).1 (let w' = w in let u' = u in omega arith) in
        let m = mod-lt i some in
        let e = parts_of i (2 ^ free_below t.set low) some in
        ap (λ k. get_or (unrolled outer numbers (2 ^ free_below t.set low)) k 0) e
        ∙ unrolled_at outer numbers (2 ^ free_below t.set low) h.strips (i / 2 ^ free_below t.set low)
        (i % 2 ^ free_below t.set low) q m
        ∙ ap (λ k. get_or numbers (k * 2 ^ free_below t.set low + i % 2 ^ free_below t.set low) 0) (own (i / 2 ^ free_below t.set low) q)
        ∙ ap (λ k. get_or numbers k 0) (sym e)
        ∙ counted i (omega arith) ∙ sym (range_at (length numbers) i (omega arith)))

-- what the parts of a table hold that stands for t: strips, or a count alone
pub table_strips : (own t : ClassesOf) (distinct : Option ℕ) (outer numbers masks : List ℕ) → own ≡ t →
    HoldsStripTable own (low_variables own.problem) distinct outer numbers masks → distinct ≡ None →
    HoldsStrips t (low_variables t.problem) outer numbers masks
unfolding HoldsStripTable
table_strips own t distinct outer numbers masks view h e =
    subst (λ (z : ClassesOf). HoldsStrips z (low_variables z.problem) outer numbers masks) view
    (subst (λ d. HoldsStripTable own (low_variables own.problem) d outer numbers masks) e h)

pub table_distinct : (own t : ClassesOf) (distinct : Option ℕ) (count : ℕ) (outer numbers masks : List ℕ) → own ≡ t →
    HoldsStripTable own (low_variables own.problem) distinct outer numbers masks → distinct ≡ Some count → AreDistinct t count
unfolding HoldsStripTable
table_distinct own t distinct count outer numbers masks view h e =
    subst (λ (z : ClassesOf). AreDistinct z count) view
    (subst (λ d. HoldsStripTable own (low_variables own.problem) d outer numbers masks) e h)
