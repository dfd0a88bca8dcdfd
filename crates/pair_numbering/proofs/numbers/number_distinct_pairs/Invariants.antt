use Rattle.std.proofs.Common.{◌≡◌, ◌/◌, ◌^◌, take, length}
use Rattle.subfunction_classes.specs.Dependence.{joined_mask}
use Rattle.subfunction_classes.specs.Places as places
use Rattle.subfunction_classes.specs.Made.{Made}
use Rattle.pair_numbering.proofs.numbers.number_distinct_pairs.Given as goal

abbrev pub invariant-loop-j : goal.invariant-loop-j
invariant-loop-j l = record {
  long : length l.to.masks.items ≡ length l.pairs.entries.numbers / 2;
  made : Made 0 (places.pairs l.pairs.entries.numbers (2 ^ l.pairs.entries.rank)) (joined_mask l.pairs.masks.now l.pairs.x) l.to.numbers.items
      (take l.j l.to.masks.items) l.j;
}
