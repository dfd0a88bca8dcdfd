-- What is wanted of sets with one low byte. The set with high byte h and a low byte is h * 256 + low.
--     AreMembersOf n set wanted      variables that are wanted of a set are its members
--     IsRequest n low needed      of each set of n variables with a low byte, at its high byte, some of its members
--     asked needed set      what is wanted of a set with the low byte
--     Asks needed masks wanted      all that is wanted of some sets
use Rattle.std.specs.Prelude.{◌≡◌, ℕ, ◌+◌, ◌*◌, ◌/◌, ◌%◌, ◌^◌, ◌<◌, ◌≤◌, IsTrue, List, length, slice_index}
use Rattle.std.specs.Int.{bit_at}
use Rattle.definitions.specs.Orders.{has, members}

-- the variables that are wanted of a set are its members
abbrev pub AreMembersOf : ℕ → ℕ → ℕ → Type 0
AreMembersOf n set wanted = (x : ℕ) → bit_at wanted x ≡ 1 → IsTrue (has (members n set) x)

-- of each set of n variables with a low byte, at its high byte, some of its members
pub record IsRequest (n low : ℕ) (needed : List ℕ) : Type 0 where
  pub byte : low < 256
  pub own : low < 2 ^ n
  pub few : length needed ≤ 256
  pub sets : (h : ℕ) → h < length needed → h * 256 + low < 2 ^ n
  pub all : (set : ℕ) → set < 2 ^ n → set % 256 ≡ low → set / 256 < length needed
  pub members : (h : ℕ) → h < length needed → AreMembersOf n (h * 256 + low) (slice_index needed h)

-- what is wanted of a set with the low byte
abbrev pub asked : List ℕ → ℕ → ℕ
asked needed set = slice_index needed (set / 256)

-- all that is wanted of some sets
abbrev pub Asks : List ℕ → List ℕ → List ℕ → Type 0
Asks needed masks wanted = (i : ℕ) → i < length masks → (x : ℕ) → bit_at (slice_index wanted i) x ≡ 1 →
    bit_at (asked needed (slice_index masks i)) x ≡ 1
