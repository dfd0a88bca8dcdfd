-- The masks of the numbers that occur, and the widths that follow from them.
--     in_use_more      one more mask
--     all_in_use      where each mask is that of a number that occurs
--     width_by_use      a width is the number of masks in use that have the variable
use Rattle.std.proofs.Common.{◌≡◌, ℕ, zero, suc, ◌+◌, ◌*◌, ◌/◌, ◌%◌, ◌^◌, ◌<◌, ◌≤◌, Bool, true, cond, eqb, eq-eqb, ne_eqb, nat_eq, inl, inr, List, [], ◌∷◌, ◌++◌, map, length, reverse, get_or, refl, sym, ap, ◌∙◌, subst, arith}
use Rattle.std.specs.Int.{bit_at}
use Rattle.std.specs.List.{filter, range_with_len}
use Rattle.std.specs.Set.{distinct_count}
use Rattle.std.proofs.lemmas.Bool.{and_parts, cases_eq, cases_lt}
use Rattle.std.proofs.Math.Nat.{div-lt_iff_lt-mul, mod-lt}
use Rattle.std.proofs.lemmas.Nat.{pow_pos}
use Rattle.std.proofs.lemmas.Cmp.{nat_eq_equiv}
use Rattle.std.proofs.lemmas.List.{map-append, length-append, length-map, get_or_append_left, get_or_push, map-id}
use Rattle.std.proofs.lemmas.List.Elements.{filter-append}
use Rattle.std.proofs.lemmas.List.FromFn.{fill_by_all, length-range_with_len}
use Rattle.std.proofs.lemmas.Map.Made.{distinct_count-from_IsDistinct}
use Rattle.definitions.specs.Functions.{Function, same_table}
use Rattle.definitions.specs.Levels.{reach}
use Rattle.definitions.specs.Orders.{has, variables, without}
use Rattle.definitions.specs.Widths.{class_numbers, class_of, entries, outside, width}
use Rattle.definitions.proofs.Bits.Masks.{has_members}
use Rattle.definitions.proofs.Lists.Orders.{has_variables, same_bool}
use Rattle.definitions.proofs.Widths.ClassPairs.{count_alike, rank_apart}
use Rattle.definitions.proofs.Widths.Recurrence.{distinct_filter, distinct_variables}
use Rattle.definitions.proofs.Lists.Sets.{Among, Within, among_filter, among_from_filter, among_from_member, member_from_among, count_same, nat_decides}
use Rattle.definitions.proofs.Functions.Tables.{same_table_decides}
use Rattle.subfunction_classes.specs.Dependence.{AreMasks, dependence}
use Rattle.subfunction_classes.specs.Numbering.{rank, ranks}
use Rattle.compaction.specs.Rows.{width_wanted}
use Rattle.subfunction_classes.specs.Strips.{unrolled}
use Rattle.compaction.specs.ValueStrips.{AreStrips}
use Rattle.compaction.specs.Strips.{HoldsStrips, masks_in_use}
use Rattle.pair_numbering.specs.Keys.{AreUsed}
use Rattle.subfunction_classes.specs.Table.{ClassesOf, functions_of, set_of, free_below}
use Rattle.subfunction_classes.proofs.Compaction.{filter_range_same}
use Rattle.subfunction_classes.proofs.CountedWidths.{among_variables, distinct_by_numbers, length_filter_map, width_is_dependent_classes}
use Rattle.definitions.proofs.Lists.Maps.{map_same}
use Rattle.subfunction_classes.proofs.Lists.{place_of}
use Rattle.definitions.proofs.Precedence.Masks.{among_at}
use Rattle.compaction.proofs.StripTables.{parts_of, below_product}
use Rattle.compaction.proofs.UnrolledTables.{length_unrolled, unrolled_at}
use Rattle.subfunction_classes.proofs.RankLaws.{rank_below, rank_reached}
use mathlib.Core.List.{map-map}
use Rattle.definitions.proofs.Lists.Ranges.{range_append, filter_at_most}

-- one more mask, where the number occurs or not
pub in_use_more : {X : Type 0} (f : ℕ → X) (p : ℕ → Bool) (k : ℕ) →
    map f (filter p (range_with_len 0 (k + 1))) ≡ map f (filter p (range_with_len 0 k)) ++ cond (p k) (f k ∷ []) []
in_use_more f p k = grind (arith, range_append, filter-append, map-append)

pub in_use_same : (p q : ℕ → Bool) (m : ℕ) → ((k : ℕ) → k < m → p k ≡ q k) → filter p (range_with_len 0 m) ≡ filter q (range_with_len 0 m)
in_use_same p q m h = filter_range_same p q 0 m (λ k l u. h k (omega arith))

-- ---- widths

module _ (n : ℕ) (F : List Function) (S keys masks : List ℕ) (below : (i : ℕ) → i < length keys → get_or keys i 0 < length masks)
    (classes : class_numbers n F S ≡ ranks nat_eq keys)
    (labels : map (λ k. get_or masks k 0) keys ≡ map (dependence n) (reach F (reverse (outside n S)))) where
  -- as many keys as classes
  pub many_keys : distinct_count nat_eq keys ≡ distinct_count same_table (entries n F S)
  unfolding class_numbers class_of ranks rank
  many_keys =
      ap (distinct_count nat_eq) (sym (map-id keys))
      ∙ sym (count_alike nat_eq nat_decides nat_eq nat_decides (rank nat_eq keys) (λ k. k) keys
      (λ k l a b. (rank_apart nat_eq nat_decides keys k l a b, ap (rank nat_eq keys))))
      ∙ ap (distinct_count nat_eq) (sym classes)
      ∙ count_alike nat_eq nat_decides same_table same_table_decides (rank same_table (entries n F S)) (λ t. t) (entries n F S)
      (λ t u a b. (rank_apart same_table same_table_decides (entries n F S) t u a b, ap (rank same_table (entries n F S))))
      ∙ ap (distinct_count same_table) (map-id (entries n F S))

  apart : (k l : ℕ) → Among k keys → Among l keys → rank nat_eq keys k ≡ rank nat_eq keys l → k ≡ l
  unfolding rank
  apart k l a b = rank_apart nat_eq nat_decides keys k l a b

  -- the masks by classes
  By : ℕ → Type 0
  By m = (ms : List ℕ) × ((length ms ≡ m) × ((k : ℕ) → Among k keys → rank nat_eq keys k < m → get_or ms (rank nat_eq keys k) 0 ≡ get_or masks k 0))

  by_classes : (m : ℕ) → m ≤ distinct_count nat_eq keys → By m
  unfolding By
  by_classes zero h = ([], (refl, λ k a l. absurd (omega arith)))
  by_classes (suc m) h =
      let r = by_classes m (omega arith) in
      let t = rank_reached nat_eq nat_decides keys m (omega arith) in (
        r.0 ++ get_or masks t.0 0 ∷ [],
        (
          length-append r.0 (get_or masks t.0 0 ∷ []) ∙ (let l = r.1.0 in omega arith),
          λ k a l. elim (cases_lt (rank nat_eq keys k) m) [
            | inl small ↦ get_or_append_left r.0 (get_or masks t.0 0 ∷ []) 0 (rank nat_eq keys k) (let e = r.1.0 in omega arith) ∙ r.1.1 k a small
            | inr big ↦
                let e : rank nat_eq keys k ≡ m = omega arith in
                let same : k ≡ t.0 = apart k t.0 a t.1 (e ∙ sym t.2) in
                get_or_push r.0 (get_or masks t.0 0) 0 (rank nat_eq keys k) (let q = r.1.0 in omega arith) ∙ ap (λ z. get_or masks z 0) (sym same)
          ],
        ),
      )

  all_classes : By (distinct_count nat_eq keys)
  all_classes = by_classes (distinct_count nat_eq keys) (omega arith)

  class_masks : List ℕ
  unfolding By
  class_masks = all_classes.0

  are_masks : AreMasks n F S class_masks
  unfolding By class_masks ranks
  are_masks = grind (arith, many_keys, class_masks, map-map, map_same, rank_below, nat_decides)

  key_below : (k : ℕ) → Among k keys → k < length masks
  key_below k a = within keys below a
    where
      within : (xs : List ℕ) → ((i : ℕ) → i < length xs → get_or xs i 0 < length masks) → Among k xs → k < length masks
      within [] s h = absurd h
      within (x ∷ xs) s h = elim h [ inl e ↦ let z = s 0 (omega arith) in omega arith | inr t ↦ within xs (λ i l. s (suc i) (omega arith)) t ]

  -- a width is the number of used masks with the variable
  pub width_by_use : (x : ℕ) → x < n → has S x ≡ true → width n F (without x S) x ≡ length (filter (λ m. eqb (bit_at m x) 1) (masks_in_use keys masks))
  unfolding By class_masks masks_in_use rank
  width_by_use x small inside =
      width_is_dependent_classes n F S class_masks x small inside are_masks
      ∙ ap (λ ms. length (filter (λ m. eqb (bit_at m x) 1) ms)) listed
      ∙ length_filter_map (λ m. eqb (bit_at m x) 1) (λ c. get_or class_masks c 0) (variables (distinct_count nat_eq keys))
      ∙ ap (λ ks. length (filter test (variables (distinct_count nat_eq ks)))) (sym (map-id keys))
      ∙ sym (distinct_by_numbers nat_eq nat_decides (λ k. k) has_bit keys test
      (λ k a. ap (λ us. eqb (bit_at (get_or class_masks (rank nat_eq us k) 0) x) 1) (map-id keys)
      ∙ ap (λ m. eqb (bit_at m x) 1) (all_classes.1.1 k a (rank_below nat_eq nat_decides keys k a))))
      ∙ ap (distinct_count nat_eq) (map-id (filter has_bit keys))
      ∙ count_same nat_eq nat_decides (filter has_bit keys) (filter has_bit (filter (has keys) (variables (length masks)))) into onto
      ∙ distinct_count-from_IsDistinct nat_eq_equiv (filter has_bit (filter (has keys) (variables (length masks))))
      (distinct_filter has_bit (filter (has keys) (variables (length masks)))
      (distinct_filter (has keys) (variables (length masks)) (distinct_variables (length masks))))
      ∙ sym (length_filter_map (λ m. eqb (bit_at m x) 1) (λ k. get_or masks k 0) (filter (has keys) (variables (length masks))))
    where
      has_bit : ℕ → Bool
      has_bit k = eqb (bit_at (get_or masks k 0) x) 1

      test : ℕ → Bool
      test c = eqb (bit_at (get_or class_masks c 0) x) 1

      listed : class_masks ≡ map (λ c. get_or class_masks c 0) (variables (distinct_count nat_eq keys))
      listed = fill_by_all (λ c. get_or class_masks c 0) class_masks (distinct_count nat_eq keys) 0 all_classes.1.0 (λ k h. refl)

      into : Within (filter has_bit keys) (filter has_bit (filter (has keys) (variables (length masks))))
      into k h =
          let a = among_from_filter has_bit k keys h in
          among_filter has_bit k (filter (has keys) (variables (length masks)))
          (among_filter (has keys) k (variables (length masks)) (among_variables (length masks) k (key_below k a.0))
          (member_from_among nat_eq nat_decides keys k a.0)) a.1

      onto : Within (filter has_bit (filter (has keys) (variables (length masks)))) (filter has_bit keys)
      onto k h =
          let a = among_from_filter has_bit k (filter (has keys) (variables (length masks))) h in
          let b = among_from_filter (has keys) k (variables (length masks)) a.0 in
          among_filter has_bit k keys (among_from_member nat_eq nat_decides keys k b.1) a.1

-- ---- the numbers in strips

-- the strips hold the numbers of all entries, and no others
pub strips_hold : (outer numbers : List ℕ) (len : ℕ) → 0 < len → AreStrips outer numbers len → (k : ℕ) → has numbers k ≡ has (unrolled outer numbers len) k
strips_hold outer numbers len some s k =
    same_bool _ _
    (λ h. member_from_among nat_eq nat_decides (unrolled outer numbers len) k (into (among_from_member nat_eq nat_decides numbers k h)))
    (λ h. member_from_among nat_eq nat_decides numbers k (onto (among_from_member nat_eq nat_decides (unrolled outer numbers len) k h)))
  where
    into : Among k numbers → Among k (unrolled outer numbers len)
    into a =
        let i = place_of 0 numbers k a in
        let l = length_unrolled outer numbers len s in
        let small = i.1.0 in
        let q : i.0 / len < s.count = (div-lt_iff_lt-mul some).1 (let w = s.whole in omega arith) in
        let u = s.used (i.0 / len) q in
        let m = mod-lt i.0 some in
        let e = parts_of i.0 len some in
        let v = unrolled_at outer numbers len s u.0 (i.0 % len) u.1.0 m ∙ ap (λ z. get_or numbers (z * len + i.0 % len) 0) u.1.1
        ∙ ap (λ z. get_or numbers z 0) (sym e) ∙ i.1.1 in
        subst (λ z. Among z (unrolled outer numbers len)) v
        (among_at (unrolled outer numbers len) (u.0 * len + i.0 % len) 0
        (let p = below_product u.0 (length outer) len (i.0 % len) u.1.0 m in omega arith))

    onto : Among k (unrolled outer numbers len) → Among k numbers
    onto a =
        let i = place_of 0 (unrolled outer numbers len) k a in
        let l = length_unrolled outer numbers len s in
        let small = i.1.0 in
        let q : i.0 / len < length outer = (div-lt_iff_lt-mul some).1 (omega arith) in
        let m = mod-lt i.0 some in
        let e = parts_of i.0 len some in
        let v = sym (unrolled_at outer numbers len s (i.0 / len) (i.0 % len) q m) ∙ ap (λ z. get_or (unrolled outer numbers len) z 0) (sym e) ∙ i.1.1 in
        subst (λ z. Among z numbers) v (among_at numbers (get_or outer (i.0 / len) 0 * len + i.0 % len) 0
        (let p = below_product (get_or outer (i.0 / len) 0) s.count len (i.0 % len) (s.within (i.0 / len) q) m in let w = s.whole in omega arith))

pub in_use_strips : (outer numbers : List ℕ) (len : ℕ) → 0 < len → AreStrips outer numbers len → (masks : List ℕ) →
    masks_in_use numbers masks ≡ masks_in_use (unrolled outer numbers len) masks
unfolding masks_in_use
in_use_strips outer numbers len some s masks =
    ap (map (λ k. get_or masks k 0))
    (in_use_same (has numbers) (has (unrolled outer numbers len)) (length masks) (λ k h. strips_hold outer numbers len some s k))

-- where each mask is that of a number that occurs they are all in use
pub all_in_use : (numbers masks : List ℕ) → AreUsed numbers masks → masks_in_use numbers masks ≡ masks
unfolding masks_in_use
all_in_use numbers masks h =
    ap (map (λ k. get_or masks k 0)) (in_use_same (has numbers) (λ k. true) (length masks) h ∙ kept (variables (length masks)))
    ∙ sym (fill_by_all (λ k. get_or masks k 0) masks (length masks) 0 refl (λ k l. refl))
  where
    kept : (xs : List ℕ) → filter (λ k. true) xs ≡ xs
    kept [] = refl
    kept (x ∷ xs) = ap (λ us. x ∷ us) (kept xs)

pub few_in_use : (numbers masks : List ℕ) → length (masks_in_use numbers masks) ≤ length masks
unfolding masks_in_use
few_in_use numbers masks = grind (arith, length-map, filter_at_most, length-range_with_len)

-- the row of a table kept in strips
pub strips_row : (t : ClassesOf) (low : ℕ) (outer numbers masks : List ℕ) → HoldsStrips t low outer numbers masks → (wanted x w : ℕ) →
    (bit_at wanted x ≡ 1 → has (set_of t) x ≡ true) →
    w ≡ cond (eqb (bit_at wanted x) 1) (length (filter (λ m. eqb (bit_at m x) 1) (masks_in_use numbers masks))) 0 → w ≡ width_wanted t.problem t.set wanted x
unfolding width_wanted
strips_row t low outer numbers masks h wanted x w inside e = e ∙ elim (cases_eq (bit_at wanted x) 1) [
  | inl one ↦
      let s = inside one in
      let small : x < t.problem.inputs =
      (has_variables t.problem.inputs x).0
      (and_parts (has (variables t.problem.inputs) x) (eqb (bit_at t.set x) 1)
      (sym (has_members t.problem.inputs t.set x) ∙ s)).0 in
      ap (λ b. cond b (length (filter (λ m. eqb (bit_at m x) 1) (masks_in_use numbers masks))) 0) (eq-eqb (bit_at wanted x) 1 one)
      ∙ ap (λ ms. length (filter (λ m. eqb (bit_at m x) 1) ms))
      (in_use_strips outer numbers (2 ^ free_below t.set low) (pow_pos (free_below t.set low)) h.strips masks)
      ∙ sym (width_by_use t.problem.inputs (functions_of t) (set_of t) (unrolled outer numbers (2 ^ free_below t.set low)) masks
      h.keys.below h.keys.classes h.keys.labels x small s)
      ∙ sym (ap (λ b. cond b (width t.problem.inputs (functions_of t) (without x (set_of t)) x) 0) (eq-eqb (bit_at wanted x) 1 one))
  | inr none ↦
      ap (λ b. cond b (length (filter (λ m. eqb (bit_at m x) 1) (masks_in_use numbers masks))) 0) (ne_eqb (bit_at wanted x) 1 none)
      ∙ sym (ap (λ b. cond b (width t.problem.inputs (functions_of t) (without x (set_of t)) x) 0) (ne_eqb (bit_at wanted x) 1 none))
]
