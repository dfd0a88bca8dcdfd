use Rattle.definitions.proofs.Bits.Problems.{MaskOfFirst}
use Rattle.solutions.specs.Solutions.{cost_for_without}
use Rattle.layer_core.proofs.WantedMembers.{is_affordable}
use Rattle.solutions.proofs.width_counts.affordable_members.Given as goal

abbrev pub invariant-loop-x : goal.invariant-loop-x
invariant-loop-x l = MaskOfFirst (is_affordable (cost_for_without l.cells l.mask) l.cells.bound l.mask) l.x l.found
