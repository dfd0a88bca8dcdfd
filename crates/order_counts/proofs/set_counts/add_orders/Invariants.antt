use Rattle.order_counts.proofs.PartialCounts.{ArePartialCounts}
use Rattle.order_counts.proofs.set_counts.add_orders.Given as goal

abbrev pub invariant-loop-x : goal.invariant-loop-x
invariant-loop-x l = ArePartialCounts l.given l.set l.initial.counts l.x l.counts
