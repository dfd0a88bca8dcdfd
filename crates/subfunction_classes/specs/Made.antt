-- How far a numbering of pairs by first occurrence has come, with a value computed for each number, such as a mask.
--     Progress ps out count j      the first j pairs are numbered, and `count` of them are distinct
--     Joined none ps join out j      `out` has the value of `join` for each number among the first j pairs, and `none` past its end
--     Made none ps join out masks j      the first j pairs are numbered, and `masks` has the value of `join` for each number
use Rattle.std.specs.Prelude.{◌≡◌, ℕ, ◌<◌, ◌≤◌, List, map, length, get_or, take}
use Rattle.std.specs.Set.{distinct_count}
use Rattle.definitions.specs.Widths.{same_pair}
use Rattle.subfunction_classes.specs.Numbering.{rank}

-- the first j pairs are numbered
pub record Progress (ps : List (ℕ × ℕ)) (out : List ℕ) (count j : ℕ) : Type 0 where
  pub done : out ≡ map (rank same_pair ps) (take j ps)
  pub many : count ≡ distinct_count same_pair (take j ps)

module _ {M : Type 0} (none : M) (ps : List (ℕ × ℕ)) (join : ℕ × ℕ → M) where
  -- the values of `join` for the numbers of the first j pairs
  pub record Joined (out : List M) (j : ℕ) : Type 0 where
    pub many : length out ≡ distinct_count same_pair (take j ps)
    pub labels : (i : ℕ) → i < j → get_or out (rank same_pair ps (get_or ps i (0, 0))) none ≡ join (get_or ps i (0, 0))

  -- the numbers of the first j pairs are written, and the masks are those of these numbers
  pub record Made (out : List ℕ) (masks : List M) (j : ℕ) : Type 0 where
    pub long : length out ≡ length ps
    pub few : length masks ≤ j
    pub within : j ≤ length ps
    pub progress : Progress ps (take j out) (length masks) j
    pub joined : Joined masks j
