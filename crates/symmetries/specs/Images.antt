-- Images of sets when variables are exchanged in pairs.
--     IsImage n partners S T      T has the partners of the variables of S, both as masks
--     AreImages n partners images      the image of each set, at its mask
--     TellValues t values      points with equal entries in `values` have equal values of all functions
use Rattle.std.specs.Prelude.{◌≡◌, ℕ, ◌^◌, ◌<◌, List, length, slice_index}
use Rattle.std.specs.Int.{bit_at}
use Rattle.definitions.specs.Problems.{TruthTables, outputs_of, value_at}

-- T is the set S, or the number of a point S, with exchanged variables
pub record IsImage (n : ℕ) (partners : List ℕ) (S T : ℕ) : Type 0 where
  pub small : T < 2 ^ n
  pub bits : (y : ℕ) → y < n → bit_at T y ≡ bit_at S (slice_index partners y)

-- the image of each set, at its mask
pub record AreImages (n : ℕ) (partners images : List ℕ) : Type 0 where
  pub long : length images ≡ 2 ^ n
  pub each : (S : ℕ) → S < 2 ^ n → IsImage n partners S (slice_index images S)

-- points with equal entries in `values` have equal values of all functions
abbrev pub TellValues : TruthTables → List ℕ → Type 0
TellValues t values = (p q : ℕ) → p < 2 ^ t.inputs → q < 2 ^ t.inputs → slice_index values p ≡ slice_index values q →
    (j : ℕ) → j < outputs_of t → value_at t j p ≡ value_at t j q
