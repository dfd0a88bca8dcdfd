use Rattle.definitions.specs.Problems.{functions}
use Rattle.order_counts.specs.Figures.{AreFiguresBelow}
use Rattle.order_counts.proofs.figures.figures_of_orders.Given as goal

abbrev pub invariant-loop-set : goal.invariant-loop-set
invariant-loop-set l = AreFiguresBelow l.pairs.inputs (functions l.problem) l.pairs.pairs l.set l.figures.items
