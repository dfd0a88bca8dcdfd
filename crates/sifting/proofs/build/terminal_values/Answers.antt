use Rattle.std.proofs.Common.{arith}
use Rattle.std.proofs.lemmas.Grind.{common_steps}
use Rattle.sifting.proofs.build.terminal_values.Goals as goal

pub loop-r-preserved : goal.loop-r-preserved
loop-r-preserved c = grind (arith, common_steps)
