use Rattle.minorder_c.proofs.Parts.{IsSoFar}
use Rattle.minorder_c.proofs.many.optima_of.Given as goal

abbrev pub invariant-loop-i : goal.invariant-loop-i
invariant-loop-i l = IsSoFar l.given l.i l.answers.orders.items l.answers.levels.items l.answers.totals.items
