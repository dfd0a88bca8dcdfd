-- The fields of a manager.
--     nodes_of levels      the nodes, level by level
--     problem_at levels terminals order roots      the truth tables of the roots
--     HoldsDiagram      levels, roots and terminals under an order that keeps some pairs
use Rattle.std.specs.Prelude.{◌≡◌, ℕ, ◌≤◌, Bool, List, length, map}
use Rattle.definitions.specs.Functions.{table}
use Rattle.definitions.specs.Orders.{IsOrder}
use Rattle.definitions.specs.Pairs.{Keeps}
use Rattle.definitions.specs.Problems.{TruthTables}
use Rattle.definitions.specs.KeptPairs.{KeptPairs}
use Rattle.sifting.specs.declared.levels.Level.{Level}
use Rattle.sifting.specs.Leveled.{Children, function_at, places, AreLevels, AreRoots, AreTerminals}

-- the nodes, level by level
unfoldable pub nodes_of : List Level → List (List Children)
nodes_of levels = map (λ (l : Level). l.nodes.items) levels

-- the truth tables of the roots
unfoldable pub problem_at : List (List Children) → List Bool → List ℕ → List ℕ → TruthTables
problem_at levels terminals order roots =
    record {
      inputs = length order;
      tables = map (λ r. table (length order) (function_at levels terminals order r)) roots;
    }

-- a diagram by levels: it has at most 16 roots, and no node or terminal of it occurs twice
pub record IsLeveled (levels : List (List Children)) (terminals : List Bool) (order roots : List ℕ) : Type 0 where
  pub long : length levels ≡ length order
  pub levels_are : AreLevels 16 terminals levels
  pub roots_are : AreRoots (places levels terminals) roots
  pub terminals_are : AreTerminals terminals

-- a diagram by levels under an order that keeps some pairs
pub record HoldsDiagram (levels : List (List Children)) (terminals : List Bool) (order roots : List ℕ)
    (kept : KeptPairs) : Type 0 where
  pub leveled : IsLeveled levels terminals order roots
  pub few : length order ≤ 16
  pub is_order : IsOrder (length order) order
  pub inputs : kept.inputs ≡ length order
  pub keeps : Keeps kept.pairs order
