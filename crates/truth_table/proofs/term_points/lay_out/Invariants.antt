use Rattle.std.proofs.Common.{◌≡◌, ℕ, ◌<◌, ◌/◌, ◌%◌, [], bit_and, length, get_or, slice_index}
use Rattle.truth_table.proofs.term_points.lay_out.Given as goal

abbrev pub invariant-loop-i : goal.invariant-loop-i
invariant-loop-i l = record {
  long : length l.words.items ≡ l.i;
  words : (k : ℕ) → k < l.i →
      slice_index l.words.items k ≡ bit_and
      (slice_index (get_or (get_or l.groups (k % l.size / 32) []) (k % l.size % 32) []) (k / l.size)) l.mask;
}
