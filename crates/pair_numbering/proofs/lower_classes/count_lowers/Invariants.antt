use Rattle.std.proofs.Common.{◌+◌, ◌*◌, ◌^◌}
use Rattle.subfunction_classes.specs.Places.{pairs}
use Rattle.pair_numbering.specs.LowerClasses.{Counted}
use Rattle.pair_numbering.proofs.lower_classes.count_lowers.Given as goal

abbrev pub invariant-loop-block : goal.invariant-loop-block
invariant-loop-block l = Counted (pairs l.entries.numbers (2 ^ l.entries.rank)) l.counts (l.block * 2 ^ l.entries.rank)

abbrev pub invariant-loop-i : goal.invariant-loop-i
invariant-loop-i l = Counted (pairs l.entries.numbers (2 ^ l.entries.rank)) l.counts (l.block * 2 ^ l.entries.rank + l.i)
