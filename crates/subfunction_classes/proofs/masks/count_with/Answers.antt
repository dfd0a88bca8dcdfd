use Rattle.std.proofs.Common.{arith}
use Rattle.std.proofs.lemmas.Grind.{common_steps}
use Rattle.subfunction_classes.proofs.masks.count_with.Goals as goal

pub loop-mask-preserved : goal.loop-mask-preserved
loop-mask-preserved c = grind (arith, common_steps)
