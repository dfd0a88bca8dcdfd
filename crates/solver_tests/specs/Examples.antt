-- What the tests' cells are for.
--     parity      the problem instance of the tests' boards
--     IsAfter t layer before      the layer is the one after that of true costs
use Rattle.std.specs.Prelude.{◌≡◌, ◌+◌, [], ◌∷◌}
use Rattle.definitions.specs.Problems.{packed_tables}
use Rattle.definitions.specs.declared.limits.LowerBound.TheVariants.{Variables}
use Rattle.subset_layers.specs.Costs.{CostsOf}
use Rattle.subset_layers.specs.Layers.{LayerOf, layer_with}
use Rattle.layer_core.specs.Instances.{InstanceOf}
use Rattle.layer_core.specs.LayerCosts.{AreCostsFor}

-- the parity of four variables, no pairs, bound 7, and one node counted for each essential variable outside a set
abbrev pub parity : InstanceOf
parity = record { problem = packed_tables 4 1 (27030 ∷ []); pairs = record { inputs = 4; pairs = [] }; lower_bound = Variables; bound = 7 }

-- the costs are the definition's, and the layer is the one after theirs
pub record IsAfter (t : InstanceOf) (layer : LayerOf) (before : CostsOf) : Type 0 where
  pub inputs : before.inputs ≡ t.problem.inputs
  pub layer_is : layer ≡ layer_with t.problem.inputs (before.size + 1)
  pub costs : AreCostsFor t before
