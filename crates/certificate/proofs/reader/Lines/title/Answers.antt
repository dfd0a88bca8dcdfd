use Rattle.std.proofs.Common.{rules}
use Rattle.certificate.proofs.Outcomes.{asked}
use Rattle.certificate.proofs.reader.Lines.title.Goals as goal

pub returns-clause-line : goal.returns-clause-line
returns-clause-line c = asked _ _ _ _ _ _ c.take.ensures.line (λ line value read. search rules)
