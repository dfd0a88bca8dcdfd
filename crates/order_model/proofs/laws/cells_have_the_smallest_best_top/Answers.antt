use Rattle.definitions.proofs.Widths.Cells.{cell_member, cell_smallest}
use Rattle.order_model.proofs.laws.cells_have_the_smallest_best_top.Goals as goal

pub returns-clause-smallest : goal.returns-clause-smallest
returns-clause-smallest c = cell_smallest

pub returns-clause-member : goal.returns-clause-member
returns-clause-member c = λ n F P order r bound mask z o k m. cell_member n F P order o k r bound mask z m
