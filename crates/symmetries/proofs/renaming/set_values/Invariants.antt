use Rattle.symmetries.proofs.RenamedValues.{AreSetTo}
use Rattle.symmetries.proofs.renaming.set_values.Given as goal

abbrev pub invariant-loop-point : goal.invariant-loop-point
invariant-loop-point l = AreSetTo l.problem l.fn.renamed l.renamed l.images l.output l.point
