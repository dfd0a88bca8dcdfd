use Rattle.std.proofs.Common.{rules}
use Rattle.cert_check.proofs.decision.verdict_by.Goals as goal

pub returns-in-None : goal.returns-in-None
returns-in-None c = search rules
