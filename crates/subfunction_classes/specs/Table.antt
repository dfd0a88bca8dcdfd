-- What a contract sees of a class table: the problem, and the set. Everything else follows from these two.
--     ClassesOf, functions_of t, set_of t      the value of a class table, its functions, and the variables of its set
--     classes_of problem set, with_variable t x      the table of a set; the table of the set with one more variable
--     HoldsClasses t numbers masks      the numbers are the class numbers of the set's subfunctions, the masks what each class depends on
--     free_below set x      how many variables below x are not in the set
use Rattle.std.specs.Prelude.{◌≡◌, ℕ, bit_or, not, ◌==◌, ◌^◌, ◌≤◌, List, length}
use Rattle.std.specs.List.{filter, range_with_len}
use Rattle.std.specs.Int.{bit_at}
use Rattle.definitions.specs.Functions.{Function}
use Rattle.definitions.specs.Orders.{members}
use Rattle.definitions.specs.Problems.{TruthTables, functions}
use Rattle.definitions.specs.Widths.{class_numbers}
use Rattle.subfunction_classes.specs.Dependence.{AreMasks}

-- a problem and a set of its variables, as a mask
pub record ClassesOf : Type 0 where
  pub problem : TruthTables
  pub set : ℕ

-- the classes of a set
abbrev pub classes_of : TruthTables → ℕ → ClassesOf
classes_of problem set = record { problem = problem; set = set }

abbrev pub functions_of : ClassesOf → List Function
functions_of t = functions t.problem

abbrev pub set_of : ClassesOf → List ℕ
set_of t = members t.problem.inputs t.set

-- t with one more variable in its set
abbrev pub with_variable : ClassesOf → ℕ → ClassesOf
with_variable t x = classes_of t.problem (bit_or t.set (2 ^ x))

-- the class of each entry, and the mask of each class
pub record HoldsClasses (t : ClassesOf) (numbers masks : List ℕ) : Type 0 where
  pub few_inputs : t.problem.inputs ≤ 16
  pub few : length numbers ≤ 2 ^ 20
  pub classes : numbers ≡ class_numbers t.problem.inputs (functions_of t) (set_of t)
  pub masks_are : AreMasks t.problem.inputs (functions_of t) (set_of t) masks

-- how many variables below x are not in the set
unfoldable pub free_below : ℕ → ℕ → ℕ
free_below set x = length (filter (λ y. not (bit_at set y == 1)) (range_with_len 0 x))
