use Rattle.std.proofs.Common.{◌≡◌}
use Rattle.solver_tests.proofs.boards.claim_all.Given as goal

abbrev pub invariant-loop-place : goal.invariant-loop-place
invariant-loop-place g l = l.seat.board ≡ l.board
