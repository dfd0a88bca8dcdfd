use Rattle.std.proofs.Common.{◌≡◌, map, take}
use Rattle.subset_layers.specs.Layers.{masks_of}
use Rattle.layer_core.specs.Instances.{cell_for}
use Rattle.layer_core.specs.Pairing.{pair_of}
use Rattle.layer_work.proofs.alone.cells_alone.Given as goal

abbrev pub invariant-loop-place : goal.invariant-loop-place
invariant-loop-place l = map pair_of l.cells.items ≡ map (cell_for l.context.instance) (take l.place (masks_of l.context.layer))
