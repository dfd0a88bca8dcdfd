use Rattle.std.proofs.Common.{rules}
use Rattle.cert_check.proofs.values.unlisted_values.Goals as goal

pub loop-set-preserved : goal.loop-set-preserved
loop-set-preserved c = search rules
