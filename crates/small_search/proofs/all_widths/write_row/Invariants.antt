use Rattle.std.proofs.Common.{◌≡◌, ◌+◌, ◌-◌, ◌≤◌, length}
use Rattle.definitions.specs.Orders.{members}
use Rattle.definitions.specs.Problems.{functions}
use Rattle.small_search.proofs.WidthRows.{IsRowTo}
use Rattle.small_search.proofs.all_widths.write_row.Given as goal

abbrev pub invariant-loop-x : goal.invariant-loop-x
invariant-loop-x l = record {
  small : l.from ≤ 16;
  row : IsRowTo l.search.problem.inputs (functions l.search.problem) l.set l.from l.row;
  above : length (members l.from l.set) + l.place ≡ length (members l.search.problem.inputs l.set);
}

abbrev pub decreases-loop-x : goal.decreases-loop-x
decreases-loop-x l = 16 - l.from
