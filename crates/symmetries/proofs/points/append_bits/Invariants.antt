use Rattle.std.proofs.Common.{◌≡◌, ◌+◌, ◌*◌, ◌<◌, ◌≤◌, ℕ, length, slice_index}
use Rattle.definitions.specs.Functions.{weight}
use Rattle.definitions.specs.Problems.{packed_bit}
use Rattle.symmetries.proofs.points.append_bits.Given as goal

abbrev pub invariant-loop-point : goal.invariant-loop-point
invariant-loop-point l = record {
  long : length l.values.items ≡ length l.initial.values.items;
  done : (p : ℕ) → p < l.point → slice_index l.values.items p ≡ 2 * slice_index l.initial.values.items p + weight (packed_bit l.words p);
  rest : (p : ℕ) → l.point ≤ p → slice_index l.values.items p ≡ slice_index l.initial.values.items p;
}
