use Rattle.std.proofs.Common.{◌+◌, ap, arith}
use Rattle.subset_layers.proofs.CellSteps.{pair_of, first_member}
use Rattle.subset_layers.proofs.recurrence.clipped_cell.Goals as goal

pub returns : goal.returns
returns c = λ n lt. ap (pair_of (c.args.bound + 1)) (first_member n c.args.mask c.requires.some (omega arith) lt)
