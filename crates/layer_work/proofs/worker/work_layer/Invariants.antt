use Rattle.std.proofs.Common.{◌≡◌, ◌+◌, ℕ, ◌<◌, take, slice_index}
use Rattle.layer_core.specs.Needs.{widths_for}
use Rattle.layer_work.specs.Gains.{IsPosted, StaysClaimed}
use Rattle.layer_work.proofs.Rounds.{Working}
use Rattle.layer_work.proofs.ClaimedSets.{open_marks}
use Rattle.layer_work.proofs.worker.work_layer.Given as goal

abbrev pub invariant-loop-claim : goal.invariant-loop-claim
invariant-loop-claim g l = Working l.context.instance l.fn.seat l.seat l.tally

abbrev pub decreases-loop-claim : goal.decreases-loop-claim
decreases-loop-claim g l = open_marks l.seat.worker.claims

abbrev pub invariant-loop-mask : goal.invariant-loop-mask
invariant-loop-mask g l = record {
  stays : StaysClaimed l.initial.seat l.seat;
  posted : (j : ℕ) → j < l.mask-index → IsPosted l.seat (slice_index l.mask-items j);
  count : l.tally ≡ l.initial.tally + widths_for l.context.instance (take l.mask-index l.mask-items);
}
