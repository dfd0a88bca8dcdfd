-- Numbers of pairs, with the pair of each number.
--     ArePairsBelow pairs classes      both classes of each pair are below `classes`
--     ArePairsNumbered numbers rank numbered pairs      the pairs of a table's entries have numbers by first occurrence, and each number its pair
use Rattle.std.specs.Prelude.{◌≡◌, ℕ, ◌^◌, ◌<◌, List, map, length, get_or}
use Rattle.std.specs.Set.{distinct_count}
use Rattle.definitions.specs.Widths.{same_pair}
use Rattle.subfunction_classes.specs.Numbering.{ranks}
use Rattle.subfunction_classes.specs.Places as places

-- both classes of each pair
abbrev pub ArePairsBelow : List (ℕ × ℕ) → ℕ → Type 0
ArePairsBelow pairs classes = (k : ℕ) → k < length pairs →
    ((get_or pairs k (0, 0)).0 < classes) × ((get_or pairs k (0, 0)).1 < classes)

-- the number of each pair by first occurrence, and in `pairs` the pair of each number
pub record ArePairsNumbered (numbers : List ℕ) (rank : ℕ) (numbered : List ℕ) (pairs : List (ℕ × ℕ)) : Type 0 where
  pub numbered_are : numbered ≡ ranks same_pair (places.pairs numbers (2 ^ rank))
  pub many : length pairs ≡ distinct_count same_pair (places.pairs numbers (2 ^ rank))
  pub labels : map (λ c. get_or pairs c (0, 0)) numbered ≡ places.pairs numbers (2 ^ rank)
