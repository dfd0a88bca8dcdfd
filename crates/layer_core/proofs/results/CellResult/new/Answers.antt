use Rattle.std.proofs.Common.{arith}
use Rattle.layer_core.proofs.SmallCells.{cell_small}
use Rattle.layer_core.proofs.results.CellResult.new.Goals as goal

pub invariant_of-result : goal.invariant_of-result
invariant_of-result c = grind (arith, cell_small)
