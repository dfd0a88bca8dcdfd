-- What a contract sees of a manager and of a sifted order.
--     Managed      an order, the truth tables of the functions, and the pairs that the order keeps
--     truth_tables_of d      the truth tables of a diagram's roots
--     size_of m, count_of m i      the size and the level counts of the functions under the order
--     sifted_order m      the order that one pass of sifting gives
--     SiftedOrder, IsSiftedOrder      an order with a size and level counts; the size and the level counts are right
--     IsNoLarger from to      another order of the same functions and pairs, of no more nodes
use Rattle.std.specs.Prelude.{◌≡◌, ℕ, ◌<◌, ◌≤◌, List, length, map, slice_index}
use Rattle.definitions.specs.Functions.{table}
use Rattle.definitions.specs.Levels.{level_count, size_under}
use Rattle.definitions.specs.Orders.{IsOrder}
use Rattle.definitions.specs.Pairs.{Pair, Keeps}
use Rattle.definitions.specs.Problems.{TruthTables, functions}
use Rattle.definitions.specs.Diagrams.{value}
use Rattle.definitions.specs.OrderedGraphs.{OrderedGraph}
use Rattle.definitions.specs.Sifting.{sifted}

-- an order, the truth tables of the functions, and the pairs that the order keeps
pub record Managed : Type 0 where
  pub order : List ℕ
  pub problem : TruthTables
  pub pairs : List Pair

-- the truth tables of a diagram's roots
unfoldable pub truth_tables_of : OrderedGraph → TruthTables
truth_tables_of d = record {
  inputs = length d.order;
  tables = map (λ r. table (length d.order) (value d.graph.nodes r)) d.graph.roots;
}

-- the size of the functions under the order
abbrev pub size_of : Managed → ℕ
size_of m = size_under m.problem.inputs (functions m.problem) m.order

-- the count of level i
abbrev pub count_of : Managed → ℕ → ℕ
count_of m i = level_count m.problem.inputs (functions m.problem) m.order i

-- the order that one pass of sifting gives
abbrev pub sifted_order : Managed → List ℕ
sifted_order m = sifted m.problem.inputs (functions m.problem) m.pairs m.order

-- an order of all variables that keeps the pairs
pub record IsManagedOrder (m : Managed) : Type 0 where
  pub inputs : m.problem.inputs ≡ length m.order
  pub few : length m.order ≤ 16
  pub is_order : IsOrder (length m.order) m.order
  pub kept : Keeps m.pairs m.order

-- an order with its size, its level counts, the pairs that it keeps and the truth tables of the functions
pub record SiftedOrder : Type 0 where
  pub order : List ℕ
  pub size : ℕ
  pub levels : List ℕ
  pub pairs : List Pair
  pub problem : TruthTables

-- the size and the level counts are those of the functions under the order; `levels` has 0 from the last level on
pub record HasTrueSize (m : Managed) (size : ℕ) (levels : List ℕ) : Type 0 where
  pub size_is : size ≡ size_of m
  pub counts : (i : ℕ) → i < length m.order → slice_index levels i ≡ count_of m i
  pub others : (i : ℕ) → length m.order ≤ i → slice_index levels i ≡ 0

-- the size and the level counts are true, and the order keeps the pairs
pub record IsSifted (m : Managed) (size : ℕ) (levels : List ℕ) : Type 0 where
  pub managed : IsManagedOrder m
  pub true_size : HasTrueSize m size levels

-- the size and the level counts of a sifted order are true, and it keeps the pairs
abbrev pub IsSiftedOrder : SiftedOrder → Type 0
IsSiftedOrder s = IsSifted (record { order = s.order; problem = s.problem; pairs = s.pairs }) s.size s.levels

-- another order of the same functions, which keeps the same pairs and has no more nodes
pub record IsNoLarger (from to : SiftedOrder) : Type 0 where
  pub functions : to.problem ≡ from.problem
  pub pairs : to.pairs ≡ from.pairs
  pub size : to.size ≤ from.size
