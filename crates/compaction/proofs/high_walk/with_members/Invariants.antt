use Rattle.std.proofs.Common.{◌≡◌, ◌%◌, ◌^◌}
use Rattle.subfunction_classes.specs.Table.{classes_of}
use Rattle.compaction.proofs.FirstSets.{latest}
use Rattle.compaction.proofs.high_walk.with_members.Given as goal

abbrev pub invariant-loop-y : goal.invariant-loop-y
invariant-loop-y l = latest l.made l.first ≡ classes_of l.first.problem (l.low % 2 ^ l.y)
