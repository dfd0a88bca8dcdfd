-- Class tables whose entries are paired in one variable, and the numbers of the pairs.
--     AllBelow numbers k, AreOwn numbers      all numbers are below k; each number is its place in the list
--     IsPaired numbers rank      the entries come in pairs, which stand in blocks of 2 ^ rank pairs
--     IsPairTable numbers rank classes      a class table that is paired, with its classes below `classes`
--     NumbersPairs masks x ps numbers joined      the numbers of pairs by first occurrence, and the mask of each number
use Rattle.std.specs.Prelude.{◌≡◌, ℕ, ◌*◌, ◌^◌, ◌<◌, ◌≤◌, List, map, length, slice_index}
use Rattle.std.specs.Set.{distinct_count}
use Rattle.definitions.specs.Widths.{same_pair}
use Rattle.subfunction_classes.specs.Dependence.{joined_mask}
use Rattle.subfunction_classes.specs.Numbering.{ranks}

-- all numbers are below k
abbrev pub AllBelow : List ℕ → ℕ → Type 0
AllBelow numbers k = (i : ℕ) → i < length numbers → slice_index numbers i < k

-- each entry's number is its place
abbrev pub AreOwn : List ℕ → Type 0
AreOwn numbers = (i : ℕ) → i < length numbers → slice_index numbers i ≡ i

-- the entries come in whole blocks, each of 2 ^ rank entries with the variable 0, and then as many with the variable 1
pub record IsPaired (numbers : List ℕ) (rank : ℕ) : Type 0 where
  pub small_rank : rank < 16
  pub short : length numbers < 2 ^ 32
  pub whole : (blocks : ℕ) × (length numbers ≡ blocks * (2 * 2 ^ rank))

-- a class table whose entries are paired, with all its classes below `classes`
pub record IsPairTable (numbers : List ℕ) (rank classes : ℕ) : Type 0 where
  pub paired : IsPaired numbers rank
  pub few : length numbers ≤ 2 ^ 20
  pub below : AllBelow numbers classes

-- the number of each pair by first occurrence, and in `joined` the mask of each number
pub record NumbersPairs (masks : List ℕ) (x : ℕ) (ps : List (ℕ × ℕ)) (numbers joined : List ℕ) : Type 0 where
  pub numbers_are : numbers ≡ ranks same_pair ps
  pub many : length joined ≡ distinct_count same_pair ps
  pub labels : map (λ c. slice_index joined c) numbers ≡ map (joined_mask masks x) ps
