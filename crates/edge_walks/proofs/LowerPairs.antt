-- The distinct pairs of a class table's entries that pass a test.
--     lowers_le      distinct lower classes of such pairs are at most as many as the pairs
--     pairs_with_width      those whose mask has a variable are as many as the width into the set with one more
use Rattle.std.proofs.Common.{◌≡◌, ℕ, ◌+◌, ◌%◌, ◌^◌, ◌<◌, ◌≤◌, Bool, true, eqb, nat_eq, List, [], ◌∷◌, ◌++◌, map, length, get_or, if◌then◌else◌, refl, sym, ap, ◌∙◌, subst, arith}
use Rattle.std.specs.Int.{bit_at}
use Rattle.std.specs.List.{IsDistinct, filter, list_any}
use Rattle.std.specs.Set.{unique_keys, distinct_count}
use Rattle.std.proofs.lemmas.Cmp.{nat_eq_equiv}
use Rattle.std.proofs.lemmas.List.{append-nil, append_assoc, length-map, map-id, take_all}
use Rattle.std.proofs.lemmas.List.FromFn.{fill_by_all}
use Rattle.std.proofs.lemmas.Map.Made.{distinct_count-from_IsDistinct}
use Rattle.definitions.specs.Orders.{has, variables, without}
use Rattle.definitions.specs.Widths.{same_pair, width}
use Rattle.definitions.proofs.Bits.Masks.{members_small}
use Rattle.definitions.proofs.Lists.Sets.{Among, among_filter, among_map, among_unique, count_le, member_from_among, nat_decides}
use Rattle.definitions.proofs.Widths.ClassPairs.{pair_decides}
use Rattle.subfunction_classes.specs.Dependence.{joined_mask}
use Rattle.subfunction_classes.specs.Numbering.{rank, ranks}
use Rattle.subfunction_classes.specs.Places.{pairs}
use Rattle.subfunction_classes.specs.Table.{functions_of, set_of}
use Rattle.subfunction_classes.proofs.CountedWidths.{distinct_by_numbers, length_filter_map, same_at, width_is_dependent_classes}
use Rattle.subfunction_classes.proofs.DistinctPairs.{masks_many, masks_told}
use Rattle.subfunction_classes.proofs.NumberedKeys.{numbers_told}
use Rattle.subfunction_classes.proofs.Progress.{take_among}
use Rattle.subfunction_classes.proofs.RankLaws.{Numbers, numbers_none, numbers_push}
use Rattle.edge_walks.specs.Tables.{HoldsRows, TableOf, classes_at, rows_with}
use Rattle.edge_walks.proofs.ShortenedTables.{rows_more}
use mathlib.Core.List.{map-map}

pub lowers_le : (ps : List (ℕ × ℕ)) (P : ℕ × ℕ → Bool) (lowers : List ℕ) → IsDistinct nat_eq lowers →
    ((c : ℕ) → has lowers c ≡ true → (j : ℕ) × (j < length ps) × ((get_or ps j (0, 0)).0 ≡ c) × (P (get_or ps j (0, 0)) ≡ true)) →
    length lowers ≤ distinct_count same_pair (filter P ps)
lowers_le ps P lowers apart met =
    omega (
      arith,
      distinct_count-from_IsDistinct nat_eq_equiv lowers apart,
      length-map kept lower,
      count_le nat_eq nat_decides lowers (map lower kept) within,
    )
  where
    lower : ℕ × ℕ → ℕ
    lower p = p.0

    -- each of the distinct pairs once
    kept : List (ℕ × ℕ)
    kept = unique_keys same_pair (filter P ps)

    within : (c : ℕ) → Among c lowers → Among c (map lower kept)
    within c a =
        let m = met c (member_from_among nat_eq nat_decides lowers c a) in
        let p = get_or ps m.0 (0, 0) in
        let b = subst (Among p) (take_all (length ps) ps (omega arith)) (take_among ps ps (length ps) m.0 m.1 m.1) in
        subst (λ k. Among k (map lower kept)) m.2
        (among_map lower p kept (among_unique same_pair pair_decides (filter P ps) p (among_filter P p ps b m.3)))

-- pairs have distinct keys that number them: each is pushed after those before it
keys_of : (keys done rest : List (ℕ × ℕ)) → Numbers same_pair pair_decides keys done →
    (all : List (ℕ × ℕ)) × Numbers same_pair pair_decides all (done ++ rest)
keys_of keys done [] n = (keys, subst (Numbers same_pair pair_decides keys) (sym (append-nil done)) n)
keys_of keys done (p ∷ rest) n =
    grind (
      arith,
      numbers_push,
      pair_decides,
      append_assoc,
      keys_of (if list_any (same_pair p) keys then keys else keys ++ p ∷ []) (done ++ p ∷ []) rest (numbers_push same_pair pair_decides keys done p n),
    )

-- distinct pairs that pass a test of their masks are as many as the masks that pass
masks_kept : (ps : List (ℕ × ℕ)) (join : ℕ × ℕ → ℕ) (test : ℕ → Bool) (joined : List ℕ) → length joined ≡ distinct_count same_pair ps →
    map (λ c. get_or joined c 0) (ranks same_pair ps) ≡ map join ps →
    distinct_count same_pair (filter (λ p. test (join p)) ps) ≡ length (filter test joined)
unfolding ranks
masks_kept ps join test joined many labels =
    ap (distinct_count same_pair) (sym (map-id (filter (λ p. test (join p)) ps)))
    ∙ distinct_by_numbers same_pair pair_decides (λ p. p) (λ p. test (join p)) ps passes
    (λ p a. ap (λ us. passes (rank same_pair us p)) (map-id ps) ∙ ap test (mask_is p a))
    ∙ ap (λ us. length (filter passes (variables (distinct_count same_pair us)))) (map-id ps)
    ∙ sym (ap (λ ms. length (filter test ms)) listed ∙ length_filter_map test (λ c. get_or joined c 0) (variables (distinct_count same_pair ps)))
  where
    passes : ℕ → Bool
    passes c = test (get_or joined c 0)

    mask_is : (p : ℕ × ℕ) → Among p ps → get_or joined (rank same_pair ps p) 0 ≡ join p
    mask_is =
        same_at (λ p. get_or joined (rank same_pair ps p) 0) join ps (sym (map-map (λ c. get_or joined c 0) (rank same_pair ps) ps) ∙ labels)

    listed : joined ≡ map (λ c. get_or joined c 0) (variables (distinct_count same_pair ps))
    listed = fill_by_all (λ c. get_or joined c 0) joined (distinct_count same_pair ps) 0 many (λ k h. refl)

pub pairs_with_width : (t : TableOf) (x y : ℕ) → x < t.problem.inputs → x < t.level → t.set % 2 ^ (x + 1) ≡ 0 → (numbers masks : List ℕ) →
    HoldsRows t numbers masks → has (set_of (classes_at (rows_with t x))) y ≡ true →
    distinct_count same_pair (filter (λ p. eqb (bit_at (joined_mask masks x p) y) 1) (pairs numbers (2 ^ x)))
    ≡ width t.problem.inputs (functions_of (classes_at t)) (without y (set_of (classes_at (rows_with t x)))) y
pairs_with_width t x y inside below free numbers masks h member =
    masks_kept ps join (λ m. eqb (bit_at m y) 1) joined many labels
    ∙ sym (width_is_dependent_classes t.problem.inputs (functions_of (classes_at t)) (set_of (classes_at (rows_with t x))) joined y
    (members_small t.problem.inputs (rows_with t x).set y member) member more.holds.masks_are)
  where
    ps : List (ℕ × ℕ)
    ps = pairs numbers (2 ^ x)

    join : ℕ × ℕ → ℕ
    join = joined_mask masks x

    keys : (all : List (ℕ × ℕ)) × Numbers same_pair pair_decides all ps
    keys = keys_of [] [] ps (numbers_none same_pair pair_decides)

    joined : List ℕ
    joined = map join keys.0

    many : length joined ≡ distinct_count same_pair ps
    many = masks_many ps (ranks same_pair ps) keys.0 refl keys.1.many (numbers_told keys.0 ps keys.1) join

    labels : map (λ c. get_or joined c 0) (ranks same_pair ps) ≡ map join ps
    labels = masks_told ps (ranks same_pair ps) keys.0 refl keys.1.many (numbers_told keys.0 ps keys.1) join

    more : HoldsRows (rows_with t x) (ranks same_pair ps) joined
    more = rows_more t x inside below free numbers masks h (ranks same_pair ps) joined
        (record { numbers_are = refl; many = many; labels = labels })
