use Rattle.std.proofs.Common.{◌≡◌, ◌+◌, ◌-◌, ◌*◌, ◌^◌, ◌≤◌, Option, IsTrue, count_ones, length, w16}
use Rattle.std.specs.Int.{trailing_zeros}
use Rattle.definitions.specs.Orders.{has, members}
use Rattle.subset_layers.specs.declared.costs.Cell.{Cell}
use Rattle.small_search.proofs.CellRows.{IsBestBelow, IsKept, cost_without, width_without}
use Rattle.small_search.proofs.cells.cell_of_set.Given as goal

abbrev pub invariant-loop-x : goal.invariant-loop-x
invariant-loop-x l = record {
  small : l.from ≤ 16;
  kept : (o : Option Cell)
      × IsBestBelow (λ y. IsTrue (has (members l.search.problem.inputs l.set) y)) l.search.bound (cost_without l.search l.set) (width_without l.search l.set)
      l.from o
      × IsKept (count_ones l.set * 2 ^ 20) (record { cost = 33554433; variable = trailing_zeros w16 l.set }) l.best o;
  above : length (members l.from l.set) + l.place ≡ length (members l.search.problem.inputs l.set);
}

abbrev pub decreases-loop-x : goal.decreases-loop-x
decreases-loop-x l = 16 - l.from
