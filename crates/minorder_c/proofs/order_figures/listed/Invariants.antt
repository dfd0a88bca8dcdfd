use Rattle.std.specs.Prelude.{◌≡◌}
use Rattle.std.specs.List.{range_with_len}
use Rattle.definitions.specs.Problems.{functions}
use Rattle.minorder_c.specs.OrderFigures.{widths_listed}
use Rattle.minorder_c.proofs.order_figures.listed.Given as goal

abbrev pub invariant-loop-i : goal.invariant-loop-i
invariant-loop-i l = l.widths.items ≡ widths_listed l.problem.inputs (functions l.problem) (range_with_len 0 l.i)
