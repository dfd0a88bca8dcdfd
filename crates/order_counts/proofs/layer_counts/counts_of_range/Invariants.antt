use Rattle.order_counts.specs.Sizes.{AreCountsBetween}
use Rattle.order_counts.proofs.layer_counts.counts_of_range.Given as goal

abbrev pub invariant-loop-set : goal.invariant-loop-set
invariant-loop-set l = AreCountsBetween l.given l.size l.first l.set l.counts.items
