use Rattle.std.proofs.Common.{◌≡◌, ℕ, ◌<◌, ◌≤◌, get_or}
use Rattle.truth_table.specs.Fixing.{fixed_bit}
use Rattle.truth_table.proofs.fixed_variables.fix_rows.Given as goal

abbrev pub invariant-loop-i : goal.invariant-loop-i
invariant-loop-i l = record {
  done : (j : ℕ) → j < l.i → get_or l.words j 0 ≡ get_or l.fn.words (fixed_bit l.r l.upper j) 0;
  rest : (j : ℕ) → l.i ≤ j → get_or l.words j 0 ≡ get_or l.fn.words j 0;
}
