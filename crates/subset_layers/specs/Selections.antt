-- Lists of numbers with a table of their places.
--     chosen flags      the numbers k for which flag k is true, rising
--     ArePlaced numbers places      the table gives the place of each number
use Rattle.std.specs.Prelude.{◌≡◌, ℕ, ◌<◌, Bool, false, List, length, slice_index, get_or}
use Rattle.std.specs.List.{filter, range_with_len}

-- the numbers k for which flag k is true, rising
unfoldable pub chosen : List Bool → List ℕ
chosen flags = filter (λ i. get_or flags i false) (range_with_len 0 (length flags))

-- the table gives the place of each number
pub record ArePlaced (numbers places : List ℕ) : Type 0 where
  pub within : (i : ℕ) → i < length numbers → slice_index numbers i < length places
  pub placed : (i : ℕ) → i < length numbers → slice_index places (slice_index numbers i) ≡ i
