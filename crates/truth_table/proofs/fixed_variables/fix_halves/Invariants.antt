use Rattle.std.proofs.Common.{◌≡◌, ℕ, ◌<◌, ◌≤◌, get_or}
use Rattle.std.specs.Int.{bit_at}
use Rattle.truth_table.specs.Fixing.{fixed_bit}
use Rattle.truth_table.proofs.fixed_variables.fix_halves.Given as goal

abbrev pub invariant-loop-word : goal.invariant-loop-word
invariant-loop-word l = record {
  done : (i k : ℕ) → i < l.word-index → k < 64 → bit_at (get_or l.words i 0) k ≡ bit_at (get_or l.fn.words i 0) (fixed_bit l.x l.upper k);
  rest : (i : ℕ) → l.word-index ≤ i → get_or l.words i 0 ≡ get_or l.fn.words i 0;
}
