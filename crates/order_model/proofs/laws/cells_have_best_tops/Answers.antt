use Rattle.definitions.proofs.Widths.Cells.{cell_top}
use Rattle.order_model.proofs.laws.cells_have_best_tops.Goals as goal

pub returns : goal.returns
returns c = cell_top
