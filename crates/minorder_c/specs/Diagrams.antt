-- What minorder_diagram and minorder_exact_diagram take and answer.
--     HasDiagramShape given places roots      truth tables, with a place in an order for each variable and a root for each output
--     HasOptimumShape given places counts roots      also with a level count for each variable
--     IsDiagramFor given order nodes roots      nodes and roots of C stand for the functions' reduced diagram under the order, level by level from below
--     HoldsDiagram given order place place' roots count      the front of a place holds its nodes, and the rest stays
--     IsShortDiagram given order place count      it has so many nodes, more than the place
--     IsDrawnFor given order total nodes roots      also with these numbers of nodes and of outputs
--     HoldsOptimum given order levels place place' roots total      the first order of the fewest nodes, and the diagram under it in a place
--     IsShortOptimum given order levels place total      that order, whose size is more than the place
--     IsDiagramStatus s, IsOptimumStatus s      the numbers of the calls
use Rattle.std.specs.Prelude.{◌≡◌, ◌⊎◌, ℕ, ◌<◌, List, [], length}
use Rattle.truth_table.specs.Reduced.{IsNumberedDiagram}
use Rattle.truth_table.specs.declared.levels.NumberedNode.{NumberedNode}
use Rattle.minorder_c.specs.declared.arguments.GivenTables.{GivenTables}
use Rattle.minorder_c.specs.Answers.{AreTables, HasCallShape, IsFirstFewestOf, functions_in}
use Rattle.minorder_c.specs.Rooms.{Holds, IsShort}
use Rattle.minorder_c.specs.Statuses.{IsOrderStatus, IsPlainStatus}

-- truth tables, with a place in an order for each variable and a root for each output
pub record HasDiagramShape (given : GivenTables) (places roots : ℕ) : Type 0 where
  pub tables : AreTables given
  pub places_are : places ≡ given.inputs
  pub roots_are : roots ≡ given.outputs

-- truth tables, with a place in an order and a level count for each variable, and a root for each output
pub record HasOptimumShape (given : GivenTables) (places counts roots : ℕ) : Type 0 where
  pub call : HasCallShape given places counts
  pub roots_are : roots ≡ given.outputs

-- nodes and roots of C stand for the functions' reduced diagram under the order, with its nodes level by level from below
abbrev pub IsDiagramFor : GivenTables → List ℕ → List NumberedNode → List ℕ → Type 0
IsDiagramFor given = IsNumberedDiagram given.inputs (functions_in given)

-- they have these numbers of nodes and of outputs
pub record IsDrawnFor (given : GivenTables) (order : List ℕ) (total : ℕ) (nodes : List NumberedNode) (roots : List ℕ) : Type 0 where
  pub diagram : IsDiagramFor given order nodes roots
  pub size : length nodes ≡ total
  pub long : length roots ≡ given.outputs

-- the front of a place holds the nodes of that diagram, as many as counted, and the rest stays
abbrev pub HoldsDiagram : GivenTables → List ℕ → List NumberedNode → List NumberedNode → List ℕ → ℕ → Type 0
HoldsDiagram given order place place' roots count = Holds (λ nodes. IsDiagramFor given order nodes roots) place place' count

-- that diagram has so many nodes, more than there is place for
abbrev pub IsShortDiagram : GivenTables → List ℕ → List NumberedNode → ℕ → Type 0
IsShortDiagram given order place count = IsShort (λ nodes. (roots : List ℕ) × IsDiagramFor given order nodes roots) place count

-- the first order of the fewest nodes, its level counts and its size, and the diagram under it in a place
pub record HoldsOptimum (given : GivenTables) (order levels : List ℕ) (place place' : List NumberedNode) (roots : List ℕ) (total : ℕ) : Type 0 where
  pub optimum : IsFirstFewestOf given [] order levels total
  pub diagram : HoldsDiagram given order place place' roots total

-- the first order of the fewest nodes, its level counts and its size, which is more than there is place for
pub record IsShortOptimum (given : GivenTables) (order levels : List ℕ) (place : List NumberedNode) (total : ℕ) : Type 0 where
  pub optimum : IsFirstFewestOf given [] order levels total
  pub longer : length place < total

-- the numbers of the call: that of a diagram with more nodes than its place, besides those of a call with an order
abbrev pub IsDiagramStatus : ℕ → Type 0
IsDiagramStatus s = (s ≡ 7) ⊎ IsOrderStatus s

-- the same of the call for the optimum
abbrev pub IsOptimumStatus : ℕ → Type 0
IsOptimumStatus s = (s ≡ 7) ⊎ IsPlainStatus s
