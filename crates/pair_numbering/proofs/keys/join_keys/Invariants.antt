use Rattle.std.proofs.Common.{◌≡◌, ◌+◌, ◌*◌, ◌/◌, ◌^◌, map, take, length}
use Rattle.subfunction_classes.specs.Places as places
use Rattle.pair_numbering.specs.Keys.{joined_key}
use Rattle.pair_numbering.proofs.keys.join_keys.Given as goal

abbrev pub invariant-loop-block : goal.invariant-loop-block
invariant-loop-block l = record {
  long : length l.joined.items ≡ length l.entries.numbers / 2;
  done : take (l.block * 2 ^ l.entries.rank) l.joined.items
      ≡ map (joined_key l.base) (take (l.block * 2 ^ l.entries.rank) (places.pairs l.entries.numbers (2 ^ l.entries.rank)));
}

abbrev pub invariant-loop-i : goal.invariant-loop-i
invariant-loop-i l = record {
  long : length l.joined.items ≡ length l.entries.numbers / 2;
  done : take (l.block * 2 ^ l.entries.rank + l.i) l.joined.items
      ≡ map (joined_key l.base) (take (l.block * 2 ^ l.entries.rank + l.i) (places.pairs l.entries.numbers (2 ^ l.entries.rank)));
}
