use Rattle.std.proofs.Common.{◌≡◌, length, take}
use Rattle.small_search.proofs.classes.widen.Given as goal

abbrev pub invariant-loop-i : goal.invariant-loop-i
invariant-loop-i l = record {
  long : length l.wide.items ≡ length l.values;
  done : take l.i l.wide.items ≡ take l.i l.values;
}
