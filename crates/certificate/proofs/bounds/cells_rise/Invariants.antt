use Rattle.std.proofs.Common.{◌≡◌, None, length}
use Rattle.certificate.specs.Values.{fit, is_cell_of, mask_in}
use Rattle.certificate.proofs.bounds.cells_rise.Given as goal

abbrev pub invariant-loop-rest : goal.invariant-loop-rest
invariant-loop-rest l = fit (is_cell_of l.fn.n) mask_in None l.fn.cells ≡ fit (is_cell_of l.fn.n) mask_in l.last l.rest

abbrev pub decreases-loop-rest : goal.decreases-loop-rest
decreases-loop-rest l = length l.rest
