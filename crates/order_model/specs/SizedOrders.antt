-- Orders with their level counts and sizes.
--     HasItsSize problem found      the level counts and the size are those of the problem's functions under the order
use Rattle.std.specs.Prelude.{◌≡◌}
use Rattle.definitions.specs.Orders.{IsOrder}
use Rattle.definitions.specs.Problems.{TruthTables, functions}
use Rattle.definitions.specs.Levels.{level_counts, size_under}
use Rattle.order_model.specs.declared.sized_orders.SizedOrder.{SizedOrder}

-- an order of the problem's variables, whose level counts and size are those of the problem's functions under the order
pub record HasItsSize (problem : TruthTables) (found : SizedOrder) : Type 0 where
  pub is_order : IsOrder problem.inputs found.order
  pub levels_are : found.levels.items ≡ level_counts problem.inputs (functions problem) found.order
  pub size : found.total ≡ size_under problem.inputs (functions problem) found.order
