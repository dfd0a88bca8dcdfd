-- Truth tables in words of 64 points, one after the other.
--     ArePacked n m words      those of 1 to 16 functions of 1 to 16 variables; what stands behind a last point doesn't count
use Rattle.std.specs.Prelude.{◌≡◌, ℕ, ◌*◌, ◌≤◌, List, length}
use Rattle.definitions.specs.Problems.{words_per_table}

-- the truth tables of m functions of n variables, 1 to 16 of each
pub record ArePacked (n m : ℕ) (words : List ℕ) : Type 0 where
  pub some_inputs : 1 ≤ n
  pub few_inputs : n ≤ 16
  pub some_outputs : 1 ≤ m
  pub few_outputs : m ≤ 16
  pub long : length words ≡ m * words_per_table n
