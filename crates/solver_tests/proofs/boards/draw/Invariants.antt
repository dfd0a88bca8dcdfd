use Rattle.std.proofs.Common.{◌≡◌}
use Rattle.solver_tests.proofs.boards.draw.Given as goal

abbrev pub invariant-loop-turn : goal.invariant-loop-turn
invariant-loop-turn l = l.seat.board ≡ l.board
