use Rattle.std.proofs.Common.{◌-◌}
use Rattle.small_search.specs.FirstCells.{AreFewCells}
use Rattle.small_search.specs.Paths.{HoldPath}
use Rattle.small_search.proofs.search.find_cells.Given as goal

abbrev pub invariant-loop-number : goal.invariant-loop-number
invariant-loop-number l = record {
  path : HoldPath l.search.problem (l.number - 1) l.tables;
  cells : AreFewCells l.search l.number l.cells.items;
}
