-- Numbers that tell pairs apart, in any order, and the mask of each.
--     joined_key base p, joined_key_mask masks x k      the number of a pair of numbers below base, and its mask
--     TellsPairs masks x ps numbers joined      numbers by which pairs are told apart, and the mask of each
--     AreUsed numbers masks      each mask is that of a number that occurs
use Rattle.std.specs.Prelude.{◌≡◌, ℕ, ◌+◌, ◌*◌, ◌/◌, ◌%◌, ◌^◌, ◌<◌, ◌≤◌, IsTrue, List, map, length, slice_index, get_or}
use Rattle.definitions.specs.Orders.{has}
use Rattle.subfunction_classes.specs.Dependence.{joined_mask}

-- the number of a pair of numbers below base
abbrev pub joined_key : ℕ → ℕ × ℕ → ℕ
joined_key base p = p.0 + p.1 * base

-- the mask of each such number
abbrev pub joined_key_mask : List ℕ → ℕ → ℕ → ℕ
joined_key_mask masks x k = joined_mask masks x (k % length masks, k / length masks)

-- the numbers are names of the pairs, equal for equal pairs alone, and `joined` has the mask of each name
pub record TellsPairs (masks : List ℕ) (x : ℕ) (ps : List (ℕ × ℕ)) (numbers joined : List ℕ) : Type 0 where
  pub name : ℕ × ℕ → ℕ
  pub numbers_are : numbers ≡ map name ps
  pub apart : (i j : ℕ) → i < length ps → j < length ps → name (get_or ps i (0, 0)) ≡ name (get_or ps j (0, 0)) →
      get_or ps i (0, 0) ≡ get_or ps j (0, 0)
  pub below : (i : ℕ) → i < length ps → name (get_or ps i (0, 0)) < length joined
  pub labels : (i : ℕ) → i < length ps →
      slice_index joined (name (get_or ps i (0, 0))) ≡ joined_mask masks x (get_or ps i (0, 0))
  pub few : length joined ≤ 2 ^ 20

-- each mask is that of a number that occurs
abbrev pub AreUsed : List ℕ → List ℕ → Type 0
AreUsed numbers masks = (k : ℕ) → k < length masks → IsTrue (has numbers k)
