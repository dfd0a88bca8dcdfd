use Rattle.std.proofs.Common.{rules}
use Rattle.report_texts.proofs.output.write_texts.Goals as goal

pub returns-then-is_err-clause-sends : goal.returns-then-is_err-clause-sends
returns-then-is_err-clause-sends g c = search rules

pub returns-in-Err-clause-sends : goal.returns-in-Err-clause-sends
returns-in-Err-clause-sends g c = search rules
