use Rattle.order_counts.proofs.PassedOn.{IsPassedOn}
use Rattle.order_counts.proofs.limits.pass_on.Given as goal

abbrev pub invariant-loop-x : goal.invariant-loop-x
invariant-loop-x l = IsPassedOn l.initial.limits l.limits l.row l.set l.x
