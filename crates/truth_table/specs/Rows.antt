-- Rows: truth tables of single functions.
--     RowTable      a row's value: the number of variables, and the truth table
--     row_table n words, IsRow n words      what packed words hold; words of one truth table
use Rattle.std.specs.Prelude.{◌≡◌, ℕ, ◌≤◌, Bool, List, length}
use Rattle.definitions.specs.Problems.{IsClean, table_in, words_per_table}

-- the number of variables, and the truth table
pub record RowTable : Type 0 where
  pub inputs : ℕ
  pub table : List Bool

-- the row that packed words hold
abbrev pub row_table : ℕ → List ℕ → RowTable
row_table n words = record { inputs = n; table = table_in n words }

-- words of one truth table of n variables
pub record IsRow (n : ℕ) (words : List ℕ) : Type 0 where
  pub some_inputs : 1 ≤ n
  pub few_inputs : n ≤ 16
  pub long : length words ≡ words_per_table n
  pub clean : IsClean n words
