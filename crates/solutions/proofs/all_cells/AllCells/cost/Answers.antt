use Rattle.std.proofs.Common.{arith}
use Rattle.solutions.proofs.FlatLists.{flat_cost}
use Rattle.solutions.proofs.all_cells.AllCells.cost.Goals as goal

pub returns : goal.returns
returns c = grind (arith, flat_cost)
