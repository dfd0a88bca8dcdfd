use Rattle.std.proofs.Common.{◌-◌, ◌≤◌, slice_index, IsTrue}
use Rattle.definitions.specs.Orders.{has, members}
use Rattle.subset_layers.proofs.BestSums.{IsBestBelow}
use Rattle.subset_layers.proofs.recurrence.best_sum.Given as goal

abbrev pub invariant-loop-x : goal.invariant-loop-x
invariant-loop-x l = record {
  small : l.from ≤ 16;
  best : IsBestBelow (λ x. IsTrue (has (members l.inputs l.mask) x)) l.bound (slice_index l.below) (slice_index l.widths) l.from l.best;
}

abbrev pub decreases-loop-x : goal.decreases-loop-x
decreases-loop-x l = 16 - l.from
