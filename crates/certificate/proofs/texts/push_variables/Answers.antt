use Rattle.std.proofs.Common.{take_all, arith}
use Rattle.certificate.proofs.WrittenLines.{numbers_written}
use Rattle.std.proofs.lemmas.Grind.{common_steps}
use Rattle.certificate.proofs.texts.push_variables.Goals as goal

pub returns : goal.returns
returns c = grind (arith, numbers_written, take_all)

pub loop-variable-preserved : goal.loop-variable-preserved
loop-variable-preserved c = grind (arith, common_steps)
