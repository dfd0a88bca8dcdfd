use Rattle.solutions.specs.Bounded.{AreFirstCells}
use Rattle.solutions.proofs.all_cells.by_mask.Given as goal

abbrev pub invariant-loop-number : goal.invariant-loop-number
invariant-loop-number l = AreFirstCells l.instance l.number l.cells.items
