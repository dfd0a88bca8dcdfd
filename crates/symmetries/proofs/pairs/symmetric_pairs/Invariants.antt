use Rattle.definitions.specs.Problems.{functions}
use Rattle.symmetries.specs.SymmetricPairs.{AreSymmetricPairs}
use Rattle.symmetries.proofs.pairs.symmetric_pairs.Given as goal

abbrev pub invariant-loop-a : goal.invariant-loop-a
invariant-loop-a l = AreSymmetricPairs l.problem.inputs (functions l.problem) l.found.items
