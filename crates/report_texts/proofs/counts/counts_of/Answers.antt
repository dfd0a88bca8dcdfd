use Rattle.std.proofs.Common.{rules}
use Rattle.report_texts.proofs.counts.counts_of.Goals as goal

pub returns : goal.returns
returns g c = search rules
