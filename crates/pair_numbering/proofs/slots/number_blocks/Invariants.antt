use Rattle.std.proofs.Common.{◌+◌, ◌*◌, ◌/◌, ◌^◌, length}
use Rattle.pair_numbering.specs.Slots.{Slotted, home_of}
use Rattle.subfunction_classes.specs.Places as places
use Rattle.pair_numbering.proofs.slots.number_blocks.Given as goal

abbrev pub invariant-loop-block : goal.invariant-loop-block
invariant-loop-block l =
    Slotted (places.pairs l.pairs.entries.now.numbers (2 ^ l.pairs.entries.now.rank))
    (home_of (4 * (length l.pairs.entries.now.numbers / 2))) l.pairs.counts.now l.slots l.keys l.out l.count (l.block * 2 ^ l.pairs.entries.now.rank)

abbrev pub invariant-loop-i : goal.invariant-loop-i
invariant-loop-i l =
    Slotted (places.pairs l.pairs.entries.now.numbers (2 ^ l.pairs.entries.now.rank))
    (home_of (4 * (length l.pairs.entries.now.numbers / 2))) l.pairs.counts.now l.slots l.keys l.out l.count
    (l.block * 2 ^ l.pairs.entries.now.rank + l.i)
