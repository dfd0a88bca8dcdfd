-- What a class table keeps.
--     TableOf, table_at problem set level      a table's value: also the bound below which no variable is in the set, and rows may be left out
--     rows_with t x, rows_at t y      the table with one more variable in its set; one with shorter rows
--     HoldsRows t numbers masks      the numbers are those of the set's classes, without rows that have come before
--     IsFull t count      all subfunctions are distinct, `count` is their number, and each depends on the whole set
--     HoldsTable t full numbers masks      `full` is this count, if there is one; else t has the numbers and masks
use Rattle.std.specs.Prelude.{ℕ, ◌^◌, List, replicate, bit_or, Option, Some, None}
use Rattle.std.specs.List.{range_with_len}
use Rattle.definitions.specs.Problems.{TruthTables}
use Rattle.subfunction_classes.specs.Table.{ClassesOf, HoldsClasses, classes_of}
use Rattle.edge_walks.specs.Rows.{IsShortened}

-- a problem, a set of its variables as a mask, and a bound below which no variable is in the set
pub record TableOf : Type 0 where
  pub problem : TruthTables
  pub set : ℕ
  pub level : ℕ

abbrev pub table_at : TruthTables → ℕ → ℕ → TableOf
table_at problem set level = record { problem = problem; set = set; level = level }

abbrev pub classes_at : TableOf → ClassesOf
classes_at t = classes_of t.problem t.set

-- t with one more variable in its set, the highest one below which none is
abbrev pub rows_with : TableOf → ℕ → TableOf
rows_with t x = table_at t.problem (bit_or t.set (2 ^ x)) x

-- t with rows of 2 ^ y
abbrev pub rows_at : TableOf → ℕ → TableOf
rows_at t y = table_at t.problem t.set y

-- the numbers, of which rows that have come before may be left out
pub record HoldsRows (t : TableOf) (numbers masks : List ℕ) : Type 0 where
  pub whole : List ℕ
  pub steps : ℕ
  pub holds : HoldsClasses (classes_at t) whole masks
  pub short : IsShortened (2 ^ t.level) steps whole numbers

-- each entry is a class of its own, and each mask is the set's
abbrev pub IsFull : TableOf → ℕ → Type 0
IsFull t count = HoldsRows t (range_with_len 0 count) (replicate count t.set)

-- the numbers and masks, or their count
abbrev pub HoldsTable : TableOf → Option ℕ → List ℕ → List ℕ → Type 0
HoldsTable t None numbers masks = HoldsRows t numbers masks
HoldsTable t (Some count) numbers masks = IsFull t count
