use Rattle.solutions.proofs.WidthCounts.{WidthsTo}
use Rattle.solutions.proofs.width_counts.count_widths.Given as goal

abbrev pub invariant-loop-number : goal.invariant-loop-number
invariant-loop-number l = WidthsTo l.cells l.number l.count
