use Rattle.std.proofs.Common.{arith}
use Rattle.std.proofs.lemmas.Grind.{common_steps}
use Rattle.cert_check.proofs.head.has_shape.Goals as goal

pub returns-then-inputs : goal.returns-then-inputs
returns-then-inputs c = grind (arith, common_steps)
