-- The diagram that the answer begins with.
--     IsStartingDiagram cover P d      the reduced diagram of a cover's functions under the first order that keeps the pairs
use Rattle.std.specs.Prelude.{◌≡◌, List, length}
use Rattle.definitions.specs.Diagrams.{Represents, IsReduced}
use Rattle.definitions.specs.OrderedGraphs.{OrderedGraph}
use Rattle.definitions.specs.Pairs.{Pair, IsFirstOrder}
use Rattle.pla_reader.specs.Covers.{NamedCover, functions_of}
use Rattle.dd_builder.specs.Building.{HasLevelCounts}

-- the reduced diagram of a cover's functions under the first order that keeps the pairs, with their level counts
pub record IsStartingDiagram (cover : NamedCover) (P : List Pair) (d : OrderedGraph) : Type 0 where
  pub starts : IsFirstOrder cover.inputs P d.order
  pub long : length d.order ≡ cover.inputs
  pub diagram : Represents cover.inputs (functions_of cover) d.order d.graph
  pub reduced : IsReduced d.graph
  pub levels : HasLevelCounts cover.inputs (functions_of cover) d.order d.graph
