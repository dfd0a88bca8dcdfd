use Rattle.std.proofs.Common.{◌≡◌, ◌^◌, bit_or, length, map, take}
use Rattle.truth_table.proofs.level_classes.write_upper.Given as goal

abbrev pub invariant-loop-i : goal.invariant-loop-i
invariant-loop-i l = record {
  long : length l.upper ≡ length l.points;
  done : take l.i l.upper ≡ map (λ k. bit_or k (2 ^ l.x)) (take l.i l.points);
}
