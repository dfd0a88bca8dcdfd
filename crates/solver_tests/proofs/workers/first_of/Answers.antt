use Rattle.subset_layers.specs.Layers.{masks_of}
use Rattle.layer_core.proofs.CellPlaces.{found_cell}
use Rattle.solver_tests.proofs.workers.first_of.Goals as goal

pub returns : goal.returns
returns g c = found_cell c.args.instance.now (masks_of c.args.layer.now) c.args.cells.now 0 c.mask_at.result c.requires c.mask_at.ensures
