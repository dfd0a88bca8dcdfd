-- A walk over the pairs of a table's entries.
--     low_place_is, pair_within      the place of a pair's lower entry as the code has it; both entries lie within the table
--     pairs_more, length-pairs, pair_listed      one more pair; how many there are; the pair at a place
--     number_is, seen_more, done_more, all_done      one step of a numbering by the distinct pairs met so far, and its end
--     first_listed      the first place of a pair
use Rattle.std.proofs.Common.{◌≡◌, ℕ, ◌+◌, ◌-◌, ◌*◌, ◌/◌, ◌%◌, ◌^◌, ◌<◌, ◌≤◌, List, [], ◌∷◌, ◌++◌, map, length, get_or, take, sym, ap, ◌∙◌, arith, bit_and}
use Rattle.std.proofs.lemmas.Nat.{and_mask, one_shl}
use Rattle.std.proofs.lemmas.List.FromFn.{take-map-range_with_len, map-range_with_len_more, length-map-range_with_len, get_or-map-range_with_len}
use Rattle.std.proofs.Common.{drop, subst, if◌then◌else◌}
use Rattle.std.specs.List.{list_any, position_or_len}
use Rattle.std.proofs.lemmas.List.{append_assoc, map-append, take-append-drop, length-take, take_all}
use Rattle.std.proofs.lemmas.List.Sums.{prefix_len-le-length}
use Rattle.std.proofs.lemmas.Map.Made.{distinct_count-le}
use Rattle.definitions.specs.Widths.{same_pair}
use Rattle.definitions.proofs.Widths.ClassPairs.{pair_decides}
use Rattle.subfunction_classes.specs.Numbering.{IsFirstOccurrence, rank, ranks}
use Rattle.subfunction_classes.specs.Places.{low_place, pair_at, pairs}
use Rattle.subfunction_classes.proofs.RankLaws.{Numbers, numbers_push, rank_next}

-- the place of the lower entry, as the code has it
pub low_place_is : (rank j : ℕ) → rank < 16 → 2 * j - bit_and j (1 * 2 ^ rank % 2 ^ 64 - 1) ≡ low_place (2 ^ rank) j
low_place_is rank j h =
    let e = ap (λ s. bit_and j (s - 1)) (one_shl rank 64 (omega arith)) ∙ and_mask j rank in
    omega arith

-- both entries of a pair lie within the table
pub pair_within : (step blocks len j : ℕ) → 0 < step → len ≡ blocks * (2 * step) → j < len / 2 → low_place step j + step < len
pair_within step blocks len j some e h = grind arith

pub pairs_more : (cs : List ℕ) (step j : ℕ) → j < length cs / 2 → take (j + 1) (pairs cs step) ≡ take j (pairs cs step) ++ pair_at cs step j ∷ []
unfolding pairs
pairs_more cs step j h =
    take-map-range_with_len (pair_at cs step) 0 (length cs / 2) (j + 1) (omega arith) ∙ map-range_with_len_more (pair_at cs step) 0 j j (omega arith)
    ∙ ap (λ us. us ++ pair_at cs step j ∷ []) (sym (take-map-range_with_len (pair_at cs step) 0 (length cs / 2) j (omega arith)))

pub length-pairs : (cs : List ℕ) (step : ℕ) → length (pairs cs step) ≡ length cs / 2
unfolding pairs
length-pairs cs step = length-map-range_with_len (pair_at cs step) 0 (length cs / 2)

-- ---- one step of the numbering

module _ (cs : List ℕ) (step j : ℕ) (inside : j < length cs / 2) where
  all : List (ℕ × ℕ)
  all = pairs cs step

  key : ℕ × ℕ
  key = pair_at cs step j

  all_parts : all ≡ take j all ++ key ∷ drop (j + 1) all
  unfolding all key
  all_parts = sym (take-append-drop (j + 1) (pairs cs step)) ∙ ap (λ us. us ++ drop (j + 1) (pairs cs step)) (pairs_more cs step j inside)
      ∙ append_assoc (take j (pairs cs step)) (key ∷ []) (drop (j + 1) (pairs cs step))

  pub number_is : (keys : List (ℕ × ℕ)) → Numbers same_pair pair_decides keys (take j (pairs cs step)) →
      position_or_len (same_pair (pair_at cs step j)) keys ≡ rank same_pair (pairs cs step) (pair_at cs step j)
  unfolding all key
  number_is keys n = grind (arith, all_parts, rank_next)

  pub seen_more : (keys : List (ℕ × ℕ)) → Numbers same_pair pair_decides keys (take j (pairs cs step)) →
      Numbers same_pair pair_decides (if list_any (same_pair (pair_at cs step j)) keys then keys else keys ++ pair_at cs step j ∷ [])
      (take (j + 1) (pairs cs step))
  seen_more keys n =
      subst (Numbers same_pair pair_decides
      (if list_any (same_pair (pair_at cs step j)) keys then keys else keys ++ pair_at cs step j ∷ []))
      (sym (pairs_more cs step j inside))
      (numbers_push same_pair pair_decides keys (take j (pairs cs step)) (pair_at cs step j) n)

  pub done_more : {A : Type 0} (f : ℕ × ℕ → A) (out : List A) (number : A) → out ≡ map f (take j (pairs cs step)) →
      number ≡ f (pair_at cs step j) → out ++ number ∷ [] ≡ map f (take (j + 1) (pairs cs step))
  done_more f out number o e = grind (arith, pairs_more, map-append)

  -- a number is at most the number of pairs before
  pub number_small : (keys : List (ℕ × ℕ)) → Numbers same_pair pair_decides keys (take j (pairs cs step)) →
      position_or_len (same_pair (pair_at cs step j)) keys ≤ j
  number_small keys n = grind (arith, prefix_len-le-length, distinct_count-le, length-take)

pub all_done : (cs : List ℕ) (step j : ℕ) → length cs / 2 ≤ j → map (rank same_pair (pairs cs step)) (take j (pairs cs step)) ≡ ranks same_pair (pairs cs step)
unfolding ranks
all_done cs step j h = ap (map (rank same_pair (pairs cs step))) (take_all j (pairs cs step) (omega (arith, length-pairs cs step)))

pub pair_listed : (cs : List ℕ) (step i : ℕ) → i < length cs / 2 → get_or (pairs cs step) i (0, 0) ≡ pair_at cs step i
unfolding pairs
pair_listed cs step i h = get_or-map-range_with_len (pair_at cs step) 0 (length cs / 2) i i (0, 0) h (omega arith)

pub first_listed : (cs : List ℕ) (step j f : ℕ) → j < length cs / 2 → IsFirstOccurrence (pair_at cs step) j f →
    IsFirstOccurrence (λ i. get_or (pairs cs step) i (0, 0)) j f
first_listed cs step j f h p = grind (arith, pair_listed)
