use Rattle.std.proofs.Common.{◌≡◌, ℕ, ◌<◌, ◌≤◌, cond, eqb, bit_or, length, slice_index}
use Rattle.std.specs.Int.{bit_at}
use Rattle.truth_table.proofs.term_points.add_points.Given as goal

abbrev pub invariant-loop-output : goal.invariant-loop-output
invariant-loop-output l = record {
  long : length l.words ≡ 16;
  done : (o : ℕ) → o < l.output →
      slice_index l.words o ≡ cond (eqb (bit_at l.outs o) 1) (bit_or (slice_index l.initial.words o) l.points)
      (slice_index l.initial.words o);
  left : (o : ℕ) → l.output ≤ o → slice_index l.words o ≡ slice_index l.initial.words o;
}
