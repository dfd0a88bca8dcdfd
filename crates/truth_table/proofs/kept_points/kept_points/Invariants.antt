use Rattle.std.proofs.Common.{◌≡◌, ℕ, ◌<◌, bit_and, length, slice_index}
use Rattle.truth_table.proofs.kept_points.kept_points.Given as goal

abbrev pub invariant-loop-i : goal.invariant-loop-i
invariant-loop-i l = record {
  long : length l.kept.items ≡ l.i;
  words : (k : ℕ) → k < l.i → slice_index l.kept.items k ≡ bit_and (slice_index l.words k) l.mask;
}
