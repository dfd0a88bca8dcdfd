-- The costs and the cells of layers.
--     AreCostsFor t costs, IsLayerFor t size costs      the costs are the definition's; the costs and the cells of the layer of a size are
--     AreLayersFor t layers, AreAllLayers t layers      the layers from that of the empty set on; those of all sets
--     AreDone t layers      the layers of fewer variables than there are, at least that of the empty set
--     AreCells t masks cells      the cells of some sets
use Rattle.std.specs.Prelude.{◌≡◌, ℕ, ◌+◌, ◌≤◌, List, map, length, slice_get, Some}
use Rattle.definitions.specs.Problems.{functions}
use Rattle.subset_layers.specs.Costs.{CostsOf, AreTrueCosts, AreTrueCells}
use Rattle.subset_layers.specs.declared.costs.Cell.{Cell}
use Rattle.layer_core.specs.Pairing.{pair_of}
use Rattle.layer_core.specs.Instances.{InstanceOf, cell_for}

-- the costs are the definition's for the instance
abbrev pub AreCostsFor : InstanceOf → CostsOf → Type 0
AreCostsFor t costs = AreTrueCosts t.problem.inputs (functions t.problem) t.pairs.pairs t.lower_bound t.bound costs

-- the costs of the layer of a size, and its cells, are the definition's
pub record IsLayerFor (t : InstanceOf) (size : ℕ) (costs : CostsOf) : Type 0 where
  pub inputs : costs.inputs ≡ t.problem.inputs
  pub size_is : costs.size ≡ size
  pub costs_are : AreCostsFor t costs
  pub cells_are : AreTrueCells t.problem.inputs (functions t.problem) t.pairs.pairs t.lower_bound t.bound costs

-- the layers from that of the empty set on
abbrev pub AreLayersFor : InstanceOf → List CostsOf → Type 0
AreLayersFor t layers = (k : ℕ) (c : CostsOf) → slice_get layers k ≡ Some c → IsLayerFor t k c

-- the layers of all sets
pub record AreAllLayers (t : InstanceOf) (layers : List CostsOf) : Type 0 where
  pub many : length layers ≡ t.problem.inputs + 1
  pub layers_are : AreLayersFor t layers

-- the layers of fewer variables than there are, at least that of the empty set
pub record AreDone (t : InstanceOf) (layers : List CostsOf) : Type 0 where
  pub some : 1 ≤ length layers
  pub few : length layers ≤ t.problem.inputs
  pub layers_are : AreLayersFor t layers

-- the cells of some sets, in their order
abbrev pub AreCells : InstanceOf → List ℕ → List Cell → Type 0
AreCells t masks cells = map pair_of cells ≡ map (cell_for t) masks
