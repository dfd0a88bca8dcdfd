-- The reduced diagram of some functions under an order.
--     HasLevelCounts n F order d      a diagram has the level counts of the functions
--     IsDiagramOf n F order d      the reduced diagram of some functions under an order
--     IsByLevel order nodes      the nodes stand level by level, from the bottom level up
--     graph_named nodes roots      the diagram that numbered nodes and roots stand for
--     IsNumberedDiagram n F order nodes roots      they stand for the functions' reduced diagram under the order, with its nodes level by level
use Rattle.std.specs.Prelude.{◌≡◌, ℕ, ◌<◌, ◌≤◌, List, length, map, slice_get, slice_index}
use Rattle.std.specs.declared.option.Option.TheVariants.{Some}
use Rattle.definitions.specs.declared.refs.Node.{Node}
use Rattle.definitions.specs.Functions.{Function}
use Rattle.definitions.specs.Levels.{level_count}
use Rattle.definitions.specs.Orders.{place_in}
use Rattle.definitions.specs.Diagrams.{Graph, Represents, IsReduced, nodes_at}
use Rattle.definitions.specs.OrderedGraphs.{OrderedGraph}
use Rattle.truth_table.specs.Levels.{node_named, ref_named}
use Rattle.truth_table.specs.declared.levels.NumberedNode.{NumberedNode}

-- on each level the diagram has as many nodes as the functions' level count
abbrev pub HasLevelCounts : ℕ → List Function → List ℕ → Graph → Type 0
HasLevelCounts n F order d = (i : ℕ) → i < length order → nodes_at d (slice_index order i) ≡ level_count n F order i

-- the reduced diagram of the functions under the given order, with their level counts
pub record IsDiagramOf (n : ℕ) (F : List Function) (given : List ℕ) (d : OrderedGraph) : Type 0 where
  pub order : d.order ≡ given
  pub diagram : Represents n F given d.graph
  pub reduced : IsReduced d.graph
  pub levels : HasLevelCounts n F given d.graph

-- the nodes stand level by level, from the bottom level up
unfoldable pub IsByLevel : List ℕ → List Node → Type 0
IsByLevel order nodes = (j k : ℕ) (lower upper : Node) → j ≤ k → slice_get nodes j ≡ Some lower → slice_get nodes k ≡ Some upper →
    place_in order upper.variable ≤ place_in order lower.variable

-- the diagram that numbered nodes and roots stand for
abbrev pub graph_named : List NumberedNode → List ℕ → Graph
graph_named nodes roots = record { nodes = map node_named nodes; roots = map ref_named roots }

-- they stand for the functions' reduced diagram under the order, with its nodes level by level from the bottom
pub record IsNumberedDiagram (n : ℕ) (F : List Function) (order : List ℕ) (nodes : List NumberedNode) (roots : List ℕ) : Type 0 where
  pub diagram : IsDiagramOf n F order (record { order = order; graph = graph_named nodes roots })
  pub by_level : IsByLevel order (map node_named nodes)
