use Rattle.std.proofs.Common.{◌≡◌, ℕ, ◌+◌, ◌*◌, ◌<◌, ◌≤◌, [], length, get_or}
use Rattle.truth_table.specs.Terms.{AddsTerm}
use Rattle.truth_table.proofs.term_points.add_term.Given as goal

abbrev pub invariant-loop-place : goal.invariant-loop-place
invariant-loop-place l = record {
  long : length l.words ≡ 32;
  done : (p : ℕ) → p < l.place → AddsTerm l.term (32 * l.group + p) (get_or l.initial.words p []) (get_or l.words p []);
  left : (p : ℕ) → l.place ≤ p → get_or l.words p [] ≡ get_or l.initial.words p [];
}
