use Rattle.symmetries.proofs.RenamedValues.{AreFilledTo}
use Rattle.symmetries.proofs.renaming.renamed_problem.Given as goal

abbrev pub invariant-loop-output : goal.invariant-loop-output
invariant-loop-output l = AreFilledTo l.problem l.renamed l.images l.output
