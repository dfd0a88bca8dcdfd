use Rattle.std.proofs.Common.{◌≡◌, ℕ, ◌<◌, [], length, get_or}
use Rattle.truth_table.specs.Terms.{AreGroupWords}
use Rattle.truth_table.proofs.term_points.groups_alone.Given as goal

abbrev pub invariant-loop-group : goal.invariant-loop-group
invariant-loop-group l = record {
  long : length l.groups.items ≡ l.group;
  words : (k : ℕ) → k < l.group → AreGroupWords l.terms k (get_or l.groups.items k []);
}
