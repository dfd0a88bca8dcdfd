use Rattle.solutions.proofs.ListedSets.{ListedTo}
use Rattle.solutions.proofs.listed_sets.listed_cells.Given as goal

abbrev pub invariant-loop-number : goal.invariant-loop-number
invariant-loop-number l = ListedTo l.cells l.total l.number l.found.items
