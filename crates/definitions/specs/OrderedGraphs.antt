-- Diagrams with the order of their variables, as a contract sees them.
--     OrderedGraph, IsOrderedGraph d      an order with nodes and roots, and what each diagram of the program holds
--     root_value d j      the function of root j
use Rattle.std.specs.Prelude.{ℕ, ◌<◌, ◌^◌, false, List, length, get_or}
use Rattle.definitions.specs.declared.refs.Ref.{Ref}
use Rattle.definitions.specs.declared.refs.Ref.TheVariants.{Terminal}
use Rattle.definitions.specs.declared.refs.Node.{Node}
use Rattle.definitions.specs.Functions.{Function}
use Rattle.definitions.specs.OrderFaults.{Accepts}
use Rattle.definitions.specs.Diagrams.{Graph, IsDiagram, value}

-- an order, and nodes with a root for each function
pub record OrderedGraph : Type 0 where
  pub order : List ℕ
  pub graph : Graph

-- nodes and roots make a diagram over the order's variables
abbrev pub IsDiagramUnder : List ℕ → List Node → List Ref → Type 0
IsDiagramUnder order nodes roots = IsDiagram (length order) (record { nodes = nodes; roots = roots })

-- an order of 1 to 16 variables, and a diagram over them
pub record IsOrderedGraph (d : OrderedGraph) : Type 0 where
  pub accepted : Accepts d.order
  pub few : length d.graph.nodes < 2 ^ 32
  pub diagram : IsDiagramUnder d.order d.graph.nodes d.graph.roots

-- the function of root j
abbrev pub root_value : Graph → ℕ → Function
root_value d j = value d.nodes (get_or d.roots j (Terminal false))
