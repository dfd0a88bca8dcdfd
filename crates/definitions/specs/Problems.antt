-- Problems: the truth tables of some functions of the same variables.
--     TruthTables, functions t, outputs_of t      the value of a problem; its functions; how many functions it has
--     table_at t j, value_at t j k      function j's table and values
--     words_per_table n, packed_bit words k, table_in n words, tables_of n m words      truth tables packed in words of 64 points
--     IsClean n words, IsPacked n m words      nothing stands after the last point; words of m truth tables of n variables
use Rattle.std.specs.Prelude.{◌≡◌, ℕ, ◌+◌, ◌*◌, ◌/◌, ◌%◌, ◌^◌, ◌<◌, ◌≤◌, ◌==◌, Bool, false, List, [], length, map, slice_index, get_or, take, drop}
use Rattle.std.specs.Int.{bit_at}
use Rattle.std.specs.List.{range_with_len}
use Rattle.definitions.specs.Functions.{Function, from_table}

-- the number of variables, and the truth table of each function
pub record TruthTables : Type 0 where
  pub inputs : ℕ
  pub tables : List (List Bool)

-- the functions
abbrev pub functions : TruthTables → List Function
functions t = map from_table t.tables

-- how many functions there are
abbrev pub outputs_of : TruthTables → ℕ
outputs_of t = length t.tables

-- the truth table of function j
abbrev pub table_at : TruthTables → ℕ → List Bool
table_at t j = get_or t.tables j []

-- the value of function j at the point with number k
abbrev pub value_at : TruthTables → ℕ → ℕ → Bool
value_at t j k = get_or (table_at t j) k false

-- how many words of 64 points a truth table of n variables takes
abbrev pub words_per_table : ℕ → ℕ
words_per_table n = (2 ^ n + 63) / 64

-- bit k of packed words: the lowest 64 are in word 0
abbrev pub packed_bit : List ℕ → ℕ → Bool
packed_bit words k = bit_at (slice_index words (k / 64)) (k % 64) == 1

-- the truth table of n variables that words hold: the value at the point with number k is bit k
unfoldable pub table_in : ℕ → List ℕ → List Bool
table_in n words = map (packed_bit words) (range_with_len 0 (2 ^ n))

-- the words of table j, if each table takes `size` of them
abbrev pub words_of : ℕ → List ℕ → ℕ → List ℕ
words_of size words j = take size (drop (j * size) words)

-- m truth tables of n variables, one after the other
unfoldable pub tables_of : ℕ → ℕ → List ℕ → List (List Bool)
tables_of n m words = map (λ j. table_in n (words_of (words_per_table n) words j)) (range_with_len 0 m)

-- in each word the bits past the last point are 0
abbrev pub IsClean : ℕ → List ℕ → Type 0
IsClean n words = (i b : ℕ) → i < length words → 2 ^ n ≤ b → bit_at (slice_index words i) b ≡ 0

-- words of m truth tables of n variables, 1 to 16 of each
pub record IsPacked (n m : ℕ) (words : List ℕ) : Type 0 where
  pub some_inputs : 1 ≤ n
  pub few_inputs : n ≤ 16
  pub some_outputs : 1 ≤ m
  pub few_outputs : m ≤ 16
  pub long : length words ≡ m * words_per_table n
  pub clean : IsClean n words

-- the value of a problem with these words
abbrev pub packed_tables : ℕ → ℕ → List ℕ → TruthTables
packed_tables n m words = record { inputs = n; tables = tables_of n m words }
