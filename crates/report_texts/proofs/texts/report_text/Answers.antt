use Rattle.std.proofs.Common.{rules}
use Rattle.report_texts.proofs.texts.report_text.Goals as goal

pub returns : goal.returns
returns c = search rules
