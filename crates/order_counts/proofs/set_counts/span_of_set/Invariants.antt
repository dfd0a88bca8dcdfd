use Rattle.order_counts.specs.Sizes.{CoversAll}
use Rattle.order_counts.proofs.set_counts.span_of_set.Given as goal

abbrev pub invariant-loop-x : goal.invariant-loop-x
invariant-loop-x l = CoversAll l.given l.smaller l.set l.x l.span
