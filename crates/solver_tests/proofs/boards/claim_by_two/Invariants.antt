use Rattle.std.proofs.Common.{◌≡◌, length}
use Rattle.solver_tests.proofs.boards.claim_by_two.Given as goal

abbrev pub invariant-loop-block : goal.invariant-loop-block
invariant-loop-block g l = length l.core.workers ≡ 2
