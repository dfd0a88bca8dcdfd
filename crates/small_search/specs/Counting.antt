-- Sets of values over up to three variables, in four words: a bit for each of the 256.
--     is_in words v      whether the value v is in the set `words`
--     AreOccurring values words      the set `words` has those of the list `values` that are below 256
--     is_dependent_in words place v, dependents_in words place      v is in the set and depends on that variable; how many values do so
use Rattle.std.specs.Prelude.{◌≡◌, ℕ, ◌/◌, ◌%◌, ◌<◌, ◌==◌, ◌&&◌, Bool, List, length, slice_index}
use Rattle.std.specs.List.{filter, range_with_len}
use Rattle.std.specs.Int.{bit_at}
use Rattle.definitions.specs.Orders.{has}
use Rattle.small_search.specs.Values.{places}

abbrev pub is_in : List ℕ → ℕ → Bool
is_in words v = bit_at (slice_index words (v / 64)) (v % 64) == 1

pub record AreOccurring (values words : List ℕ) : Type 0 where
  pub four : length words ≡ 4
  pub each : (v : ℕ) → v < 256 → is_in words v ≡ has values v

abbrev pub is_dependent_in : List ℕ → ℕ → ℕ → Bool
is_dependent_in words place v = is_in words v && (bit_at (places 3 v) place == 1)

unfoldable pub dependents_in : List ℕ → ℕ → ℕ
dependents_in words place = length (filter (is_dependent_in words place) (range_with_len 0 256))
