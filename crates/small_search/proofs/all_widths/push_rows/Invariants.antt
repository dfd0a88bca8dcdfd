use Rattle.std.proofs.Common.{◌-◌}
use Rattle.definitions.specs.Problems.{functions}
use Rattle.small_search.specs.Paths.{HoldPath}
use Rattle.small_search.proofs.WidthRows.{AreRowsTo}
use Rattle.small_search.proofs.all_widths.push_rows.Given as goal

abbrev pub invariant-loop-number : goal.invariant-loop-number
invariant-loop-number l = record {
  path : HoldPath l.search.problem (l.number - 1) l.tables;
  rows : AreRowsTo l.search.problem.inputs (functions l.search.problem) l.number l.rows.items;
}
