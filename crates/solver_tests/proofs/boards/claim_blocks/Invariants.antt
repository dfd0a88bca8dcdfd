use Rattle.std.proofs.Common.{◌≡◌}
use Rattle.solver_tests.proofs.boards.claim_blocks.Given as goal

abbrev pub invariant-loop-row : goal.invariant-loop-row
invariant-loop-row g l = l.seat.board ≡ l.board
