use Rattle.std.proofs.Common.{arith}
use Rattle.sifting.proofs.RootNumbers.{roots_step}
use Rattle.sifting.proofs.build.number_roots.Goals as goal

pub loop-root-preserved : goal.loop-root-preserved
loop-root-preserved c = grind (arith, roots_step)

pub returns : goal.returns
returns c = grind arith
