use Rattle.order_counts.specs.Sizes.{AreCountsInLayer}
use Rattle.order_counts.proofs.sizes.sizes_of_orders.Given as goal

abbrev pub invariant-loop-size : goal.invariant-loop-size
invariant-loop-size g l = AreCountsInLayer l.given l.size l.counts.items
