use Rattle.std.proofs.Common.{◌≡◌, ℕ, ◌<◌, eqb}
use Rattle.std.specs.Int.{bit_at}
use Rattle.truth_table.specs.Terms.{literals_at}
use Rattle.truth_table.proofs.term_points.pattern.Given as goal

abbrev pub invariant-loop-x : goal.invariant-loop-x
invariant-loop-x l = (b : ℕ) → b < 64 → eqb (bit_at l.points b) 1 ≡ literals_at l.term b 0 l.x
