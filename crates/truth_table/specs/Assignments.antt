-- The points of all assignments of an order's variables.
--     assignments xs      the points' numbers, by rising assignment, whose highest bit is the first variable
--     values_at ks tables      the values of functions at the points with these numbers, as 0 and 1
--     AreValuesUnder t order values      the values of all functions under an order that has each variable once
use Rattle.std.specs.Prelude.{◌≡◌, ℕ, ◌^◌, Bool, false, List, [], ◌∷◌, ◌++◌, map, if◌then◌else◌, get_or, bit_or}
use Rattle.std.specs.List.{flat_map}
use Rattle.definitions.specs.Orders.{IsOrder}
use Rattle.definitions.specs.Problems.{TruthTables}

-- the numbers of the points, in the order in which a restriction by the variables lists them: the other variables have the value 0
unfoldable pub assignments : List ℕ → List ℕ
assignments [] = 0 ∷ []
assignments (x ∷ xs) = assignments xs ++ map (λ k. bit_or k (2 ^ x)) (assignments xs)

-- a value of a truth table, as 0 or 1
abbrev pub value_number : List Bool → ℕ → ℕ
value_number table k = if get_or table k false then 1 else 0

-- the values of each truth table at the points
unfoldable pub values_at : List ℕ → List (List Bool) → List ℕ
values_at ks tables = flat_map (λ table. map (value_number table) ks) tables

-- the values of all functions under an order that has each variable once
pub record AreValuesUnder (t : TruthTables) (order values : List ℕ) : Type 0 where
  pub is_order : IsOrder t.inputs order
  pub values_are : values ≡ values_at (assignments order) t.tables
