use Rattle.std.proofs.Common.{rules}
use Rattle.definitions.specs.Problems.{functions}
use Rattle.cert_check.proofs.Verdicts.{verdict_from}
use Rattle.cert_check.proofs.decision.check_by.Goals as goal

pub returns : goal.returns
returns g c = verdict_from c.args.tables.now.inputs (functions c.args.tables.now) c.args.cert.now c.verdict_by.result (search rules)
