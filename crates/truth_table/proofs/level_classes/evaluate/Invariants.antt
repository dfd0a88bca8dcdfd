use Rattle.std.proofs.Common.{◌≡◌, ℕ, ◌≤◌, cond, get_or, length, map, take}
use Rattle.definitions.specs.Problems.{packed_bit}
use Rattle.truth_table.proofs.level_classes.evaluate.Given as goal

abbrev pub invariant-loop-i : goal.invariant-loop-i
invariant-loop-i l = record {
  long : length l.points ≡ length l.fn.points;
  done : take l.i l.points ≡ map (λ k. cond (packed_bit l.words k) 1 0) (take l.i l.fn.points);
  rest : (k : ℕ) → l.i ≤ k → get_or l.points k 0 ≡ get_or l.fn.points k 0;
}
