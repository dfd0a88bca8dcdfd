use Rattle.std.proofs.Common.{◌≡◌, ◌^◌, map, take}
use Rattle.definitions.specs.Widths.{same_pair}
use Rattle.subfunction_classes.specs.Numbering.{rank}
use Rattle.subfunction_classes.specs.Places as places
use Rattle.subfunction_classes.proofs.RankLaws.{Numbers}
use Rattle.definitions.proofs.Widths.ClassPairs.{pair_decides}
use Rattle.pair_numbering.proofs.index.index_entries.Given as goal

abbrev pub invariant-loop-j : goal.invariant-loop-j
invariant-loop-j l = record {
  seen : Numbers same_pair pair_decides l.seen.keys (take l.j (places.pairs l.entries.numbers (2 ^ l.entries.rank)));
  done : l.numbers.items ≡ map (rank same_pair (places.pairs l.entries.numbers (2 ^ l.entries.rank)))
      (take l.j (places.pairs l.entries.numbers (2 ^ l.entries.rank)));
}
