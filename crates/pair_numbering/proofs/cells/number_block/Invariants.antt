use Rattle.std.proofs.Common.{◌+◌, ◌*◌, ◌^◌, ◌≤◌}
use Rattle.pair_numbering.specs.Cells.{Fronted}
use Rattle.pair_numbering.proofs.cells.number_block.Given as goal

abbrev pub invariant-loop-i : goal.invariant-loop-i
invariant-loop-i g l = record {
  fronted : Fronted l.pairs.masks.now l.pairs.x l.pairs.entries.numbers l.pairs.entries.rank l.cells l.out l.joined l.count
      (l.block * 2 ^ l.pairs.entries.rank + l.i);
  few : l.count ≤ l.from + l.i;
}
