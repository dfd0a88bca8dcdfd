use Rattle.std.proofs.Common.{◌≤◌}
use Rattle.order_solve.proofs.guesses.count_lawful.Given as goal

abbrev pub invariant-loop-i : goal.invariant-loop-i
invariant-loop-i l = l.count ≤ l.most
