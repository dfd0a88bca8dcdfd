-- Pairs of variables that an order must keep, as a contract sees them.
--     KeptPairs      the number of variables and the pairs
--     pairs_in n below      the pairs (a, b) for which mask a has bit b
--     CanBeKept n P      1 to 16 variables, pairs of them, and none is led back to itself
use Rattle.std.specs.Prelude.{◌≡◌, ◌==◌, ℕ, List, map, slice_index, if◌then◌else◌, bit_or, ◌≤◌, ◌<◌}
use Rattle.std.specs.Int.{bit_at}
use Rattle.std.specs.List.{flat_map}
use Rattle.definitions.specs.Orders.{variables, members}
use Rattle.definitions.specs.Pairs.{Pair, AreBelow, Leads}

-- the number of variables, and the pairs by rising a and then b
pub record KeptPairs : Type 0 where
  pub inputs : ℕ
  pub pairs : List Pair

-- the pairs (a, b) of n variables for which mask a has bit b
unfoldable pub pairs_in : ℕ → List ℕ → List Pair
pairs_in n below = flat_map (λ a. map (λ b. (a, b)) (members n (slice_index below a))) (variables n)

-- no variable is led back to itself
abbrev pub HasNoCycle : List Pair → Type 0
HasNoCycle P = (v : ℕ) → Leads P v v → ⊥

-- pairs of 1 to 16 variables, none of which is led back to itself
pub record CanBeKept (n : ℕ) (P : List Pair) : Type 0 where
  pub some : 1 ≤ n
  pub few : n ≤ 16
  pub below : AreBelow n P
  pub acyclic : HasNoCycle P

-- mask a has bit b
abbrev pub HasBit : List ℕ → ℕ → ℕ → Type 0
HasBit below a b = bit_at (slice_index below a) b ≡ 1

-- the masks stand for pairs of variables below n alone
abbrev pub AreWithin : ℕ → List ℕ → Type 0
AreWithin n below = (a b : ℕ) → HasBit below a b → (a < n) × (b < n)

-- masks of pairs that can be kept
pub record HoldsKept (n : ℕ) (below : List ℕ) : Type 0 where
  pub within : AreWithin n below
  pub kept : CanBeKept n (pairs_in n below)

-- each mask of the second list is the mask of the first, joined with mask k if it has bit k
abbrev pub IsJoined : List ℕ → ℕ → List ℕ → Type 0
IsJoined below k later =
    (a : ℕ) → slice_index later a ≡ if bit_at (slice_index below a) k == 1
    then bit_or (slice_index below a) (slice_index below k) else
    slice_index below a
