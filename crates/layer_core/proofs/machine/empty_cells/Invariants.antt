use Rattle.std.proofs.Common.{◌≡◌, replicate, None}
use Rattle.layer_core.proofs.machine.empty_cells.Given as goal

abbrev pub invariant-loop-place : goal.invariant-loop-place
invariant-loop-place l = l.cells.items ≡ replicate l.place None
