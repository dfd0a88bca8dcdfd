use Rattle.std.proofs.Common.{arith}
use Rattle.std.proofs.lemmas.Grind.{common_steps}
use Rattle.outcomes.proofs.fault_lines.push_fault.Goals as goal

pub returns-in-CertificateLine-clause-words : goal.returns-in-CertificateLine-clause-words
returns-in-CertificateLine-clause-words c = grind (arith, common_steps)

pub returns-in-Line-clause-words : goal.returns-in-Line-clause-words
returns-in-Line-clause-words c = grind (arith, common_steps)
