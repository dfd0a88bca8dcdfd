use Rattle.std.proofs.Common.{length}
use Rattle.order_counts.specs.Sizes.{AreCountsBetween, first_of_part}
use Rattle.order_counts.proofs.layer_counts.counts_by_workers.Given as goal

abbrev pub invariant-loop-part : goal.invariant-loop-part
invariant-loop-part g l = AreCountsBetween l.fn.given l.fn.size 0 (first_of_part l.step l.sets (length l.yielded)) l.counts.items
