-- What the calls of minorder.h take and answer.
--     given words inputs outputs      what a call is given as truth tables
--     tables_in given, functions_in given      the truth tables that the words hold; their functions
--     IsInRange given, AreTables given      1 to 16 functions of 1 to 16 variables; so many words, too
--     HasCallShape given places counts      the same, with a place and a count for each variable
--     pairs_given above      the pairs that an order has to keep
--     IsFirstFewestOf given P order levels total      the first order of the fewest nodes among those that keep the pairs
--     IsSiftedFrom given start order levels total      the order that one pass of sifting makes
--     HasLengths n s      an order of n variables, with n level counts
--     AllStay order order' levels levels' total total'      nothing is written
--     ListsStay orders orders' levels levels' totals totals'      the same of many answers
use Rattle.std.specs.Prelude.{◌≡◌, ℕ, ◌*◌, ◌≤◌, List, [], length, map}
use Rattle.std.specs.Borrow.{Bor}
use Rattle.definitions.specs.Functions.{Function}
use Rattle.definitions.specs.Pairs.{Pair}
use Rattle.definitions.specs.Levels.{level_counts, size_under}
use Rattle.definitions.specs.Sifting.{sifted}
use Rattle.definitions.specs.Problems.{TruthTables, functions, packed_tables, words_per_table}
use Rattle.order_model.specs.declared.sized_orders.SizedOrder.{SizedOrder}
use Rattle.solutions.specs.Solutions.{IsFirstFewest}
use Rattle.minorder_c.specs.declared.above.AbovePair.{AbovePair}
use Rattle.minorder_c.specs.declared.arguments.GivenTables.{GivenTables}

-- what a call is given as truth tables
abbrev pub given : Bor (List ℕ) → ℕ → ℕ → GivenTables
given words inputs outputs = record { words = words; inputs = inputs; outputs = outputs }

-- the truth tables that the words hold
abbrev pub tables_in : GivenTables → TruthTables
tables_in given = packed_tables given.inputs given.outputs given.words.now

-- their functions
abbrev pub functions_in : GivenTables → List Function
functions_in given = functions (tables_in given)

-- 1 to 16 functions of 1 to 16 variables
pub record IsInRange (given : GivenTables) : Type 0 where
  pub some_inputs : 1 ≤ given.inputs
  pub few_inputs : given.inputs ≤ 16
  pub some_outputs : 1 ≤ given.outputs
  pub few_outputs : given.outputs ≤ 16

-- the truth tables of so many functions, one behind the other
pub record AreTables (given : GivenTables) : Type 0 where
  pub in_range : IsInRange given
  pub long : length given.words.now ≡ given.outputs * words_per_table given.inputs

-- truth tables, and a place in an order and a level count for each variable
pub record HasCallShape (given : GivenTables) (places counts : ℕ) : Type 0 where
  pub tables : AreTables given
  pub places_are : places ≡ given.inputs
  pub counts_are : counts ≡ given.inputs

-- the pairs (a, b) for which a has to stand above b
abbrev pub pairs_given : List AbovePair → List Pair
pairs_given above = map (λ p. (p.above, p.below)) above

-- the first order of the fewest nodes among those that keep the pairs, with its level counts and its size
abbrev pub IsFirstFewestOf : GivenTables → List Pair → List ℕ → List ℕ → ℕ → Type 0
IsFirstFewestOf given = IsFirstFewest given.inputs (functions_in given)

-- an order of n variables, with n level counts
abbrev pub HasLengths : ℕ → SizedOrder → Type 0
HasLengths n s = (length s.order ≡ n) × (length s.levels.items ≡ n)

-- nothing is written: the order, the level counts and the total stay
abbrev pub AllStay : List ℕ → List ℕ → List ℕ → List ℕ → ℕ → ℕ → Type 0
AllStay order order' levels levels' total total' = (order' ≡ order) × (levels' ≡ levels) × (total' ≡ total)

-- the same of many answers, one behind the other
abbrev pub ListsStay : List ℕ → List ℕ → List ℕ → List ℕ → List ℕ → List ℕ → Type 0
ListsStay orders orders' levels levels' totals totals' = (orders' ≡ orders) × (levels' ≡ levels) × (totals' ≡ totals)

-- the order that one pass of sifting makes of another, with its level counts and its size
pub record IsSiftedFrom (given : GivenTables) (start order levels : List ℕ) (total : ℕ) : Type 0 where
  pub order_is : order ≡ sifted given.inputs (functions_in given) [] start
  pub levels_are : levels ≡ level_counts given.inputs (functions_in given) order
  pub size : total ≡ size_under given.inputs (functions_in given) order
