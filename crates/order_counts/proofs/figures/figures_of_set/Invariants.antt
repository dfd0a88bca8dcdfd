use Rattle.definitions.specs.Problems.{functions}
use Rattle.order_counts.proofs.Partial.{ArePartial}
use Rattle.order_counts.proofs.figures.figures_of_set.Given as goal

abbrev pub invariant-loop-x : goal.invariant-loop-x
invariant-loop-x l = ArePartial l.pairs.inputs (functions l.problem) l.pairs.pairs l.set l.x l.figures
