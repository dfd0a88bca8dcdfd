-- What minorder_widths, minorder_orders and minorder_sizes take and answer.
--     widths_listed n F masks      of each mask in turn, its width at each of n variables
--     HasWidthsShape given places      truth tables, and a place for each variable of each mask
--     IsForOrders given above all      truth tables, pairs, and the widths of all sets
--     AreFiguresReturned n F P s      the figures of all orders that keep the pairs, as C gets them
--     AreSizesFor given above most fewest orders      how many of these orders have each size up to `most`, from `fewest` on
use Rattle.std.specs.Prelude.{◌≡◌, ℕ, ◌*◌, ◌^◌, ◌≤◌, List, length, map}
use Rattle.std.specs.List.{flat_map, range_with_len}
use Rattle.definitions.specs.Functions.{Function}
use Rattle.definitions.specs.Orders.{variables}
use Rattle.definitions.specs.Pairs.{Pair, sorted_pairs}
use Rattle.definitions.specs.Widths.{least}
use Rattle.definitions.specs.AllOrders.{AreAllWidths, all_orders, most, orders_of_size, size_total, width_in}
use Rattle.minorder_c.specs.Answers.{AreTables, functions_in, pairs_given, tables_in}
use Rattle.order_counts.specs.Sizes.{AreSizesOfOrders}
use Rattle.minorder_c.specs.declared.above.AbovePair.{AbovePair}
use Rattle.minorder_c.specs.declared.all_orders.AllOrders.{AllOrders}
use Rattle.minorder_c.specs.declared.arguments.GivenTables.{GivenTables}
use Rattle.minorder_c.specs.declared.order_figures.ReturnedFigures.{ReturnedFigures}

-- of each mask in turn: at each variable its width over the mask's other members, 0 if it is no member
unfoldable pub widths_listed : ℕ → List Function → List ℕ → List ℕ
widths_listed n F masks = flat_map (λ mask. map (width_in n F mask) (range_with_len 0 n)) masks

-- truth tables, and a place for each variable of each mask
pub record HasWidthsShape (given : GivenTables) (places : ℕ) : Type 0 where
  pub tables : AreTables given
  pub places_are : places ≡ 2 ^ given.inputs * given.inputs

-- the figures of all orders that keep the pairs, as C gets them
pub record AreFiguresReturned (n : ℕ) (F : List Function) (P : List Pair) (s : ReturnedFigures) : Type 0 where
  pub count : s.orders ≡ length (all_orders n P)
  pub fewest_nodes : s.fewest_nodes ≡ least n F P (variables n)
  pub optimal_orders : s.optimal_orders ≡ orders_of_size n F P s.fewest_nodes
  pub most_nodes : s.most_nodes ≡ most n F P
  pub worst_orders : s.worst_orders ≡ orders_of_size n F P s.most_nodes
  pub total_nodes : s.total_nodes ≡ size_total n F P

-- truth tables, pairs that are kept, and the widths of all sets
pub record IsForOrders (given : GivenTables) (above : List AbovePair) (all : AllOrders) : Type 0 where
  pub tables : all.tables ≡ tables_in given
  pub pairs : all.pairs ≡ record { inputs = given.inputs; pairs = sorted_pairs given.inputs (pairs_given above) }
  pub widths : AreAllWidths given.inputs (functions_in given) all.widths.items
  pub few : length (functions_in given) ≤ 16

-- how many of the orders that keep the pairs have each size up to `most`, from `fewest` on
abbrev pub AreSizesFor : GivenTables → List AbovePair → ℕ → ℕ → List ℕ → Type 0
AreSizesFor given above = AreSizesOfOrders given.inputs (functions_in given) (sorted_pairs given.inputs (pairs_given above))
