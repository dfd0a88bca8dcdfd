-- A number for each of many places, of which few are in use: by pages of 64 places.
--     number_at pages numbers p      the number of place p, on its page
--     numbers_of places pages numbers      the numbers of all places
--     ArePages pages numbers      the page of the places not in use has zeros, and no two parts of the places in use have one page
use Rattle.std.specs.Prelude.{◌≡◌, ◌≢◌, ℕ, ◌+◌, ◌*◌, ◌/◌, ◌%◌, ◌<◌, ◌≤◌, List, length, map, slice_index}
use Rattle.std.specs.List.{range_with_len}

-- the number of a place, on its page
abbrev pub number_at : List ℕ → List ℕ → ℕ → ℕ
number_at pages numbers p = slice_index numbers (slice_index pages (p / 64) * 64 + p % 64)

-- the numbers of all places
unfoldable pub numbers_of : ℕ → List ℕ → List ℕ → List ℕ
numbers_of places pages numbers = map (number_at pages numbers) (range_with_len 0 places)

-- page 0 is that of all places not in use and has zeros, and no two parts of the places have another page in common
pub record ArePages (pages numbers : List ℕ) : Type 0 where
  pub whole : length numbers % 64 ≡ 0
  pub inside : (i : ℕ) → i < length pages → slice_index pages i * 64 + 64 ≤ length numbers
  pub zeros : (j : ℕ) → j < 64 → slice_index numbers j ≡ 0
  pub some : 64 ≤ length numbers
  pub apart : (i j : ℕ) → i < length pages → j < length pages → slice_index pages i ≡ slice_index pages j → slice_index pages i ≢ 0 → i ≡ j
