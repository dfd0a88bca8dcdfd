use Rattle.std.proofs.Common.{rules}
use Rattle.certificate.proofs.reader.Lines.take.Goals as goal

pub returns-in_default-clause-line : goal.returns-in_default-clause-line
returns-in_default-clause-line c = search rules

pub returns-in-Err-clause-line : goal.returns-in-Err-clause-line
returns-in-Err-clause-line c = search rules
