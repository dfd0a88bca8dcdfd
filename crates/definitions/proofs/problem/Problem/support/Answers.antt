use Rattle.std.proofs.Common.{arith}
use Rattle.definitions.proofs.Bits.Problems.{mask_with_next, mask_of_passing}
use Rattle.definitions.proofs.problem.Problem.support.Goals as goal
use Rattle.definitions.proofs.problem.Problem.support.Goals.{then-depends_on, else-depends_on}

pub loop-x-preserved : goal.loop-x-preserved
loop-x-preserved c = grind (arith, mask_with_next)

pub returns : goal.returns
returns c = grind (arith, mask_of_passing)
