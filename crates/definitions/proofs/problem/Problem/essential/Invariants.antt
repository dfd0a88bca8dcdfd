use Rattle.definitions.proofs.Bits.Problems.{MaskOfFirst, some_dependence}
use Rattle.definitions.proofs.problem.Problem.essential.Given as goal

abbrev pub invariant-loop-x : goal.invariant-loop-x
invariant-loop-x l = MaskOfFirst (some_dependence l.self) l.x l.mask
