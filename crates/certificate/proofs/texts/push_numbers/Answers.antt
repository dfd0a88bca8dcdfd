use Rattle.std.proofs.Common.{take_all, arith}
use Rattle.certificate.proofs.WrittenLines.{numbers_written}
use Rattle.std.proofs.lemmas.Grind.{common_steps}
use Rattle.certificate.proofs.texts.push_numbers.Goals as goal

pub returns : goal.returns
returns c = grind (arith, numbers_written, take_all)

pub loop-number-preserved : goal.loop-number-preserved
loop-number-preserved c = grind (arith, common_steps)
