use Rattle.std.proofs.Common.{◌+◌, ◌*◌, ◌^◌}
use Rattle.small_search.proofs.JoinedValues.{AreJoinedTo}
use Rattle.small_search.proofs.values.join_blocks.Given as goal

abbrev pub invariant-loop-i : goal.invariant-loop-i
invariant-loop-i l = AreJoinedTo l.before l.x (2 ^ l.shift) l.values (l.block * 2 ^ l.x + l.i)

abbrev pub invariant-loop-block : goal.invariant-loop-block
invariant-loop-block l = AreJoinedTo l.before l.x (2 ^ l.shift) l.values (l.block * 2 ^ l.x)
