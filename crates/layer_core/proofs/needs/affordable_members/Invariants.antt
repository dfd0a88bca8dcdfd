use Rattle.std.proofs.Common.{◌-◌, ◌≤◌, slice_index}
use Rattle.definitions.proofs.Bits.Problems.{MaskOfFirst}
use Rattle.layer_core.proofs.WantedMembers.{is_affordable}
use Rattle.layer_core.proofs.needs.affordable_members.Given as goal

abbrev pub invariant-loop-x : goal.invariant-loop-x
invariant-loop-x l = record {
  small : l.from ≤ 16;
  inside : l.from ≤ l.inputs;
  found : MaskOfFirst (is_affordable (slice_index l.below) l.bound l.mask) l.from l.found;
}

abbrev pub decreases-loop-x : goal.decreases-loop-x
decreases-loop-x l = 16 - l.from
