use Rattle.std.proofs.Common.{rules}
use Rattle.certificate.proofs.Outcomes.{asked}
use Rattle.certificate.proofs.NumberLines.{asked_within}
use Rattle.certificate.proofs.reader.Lines.number.Goals as goal

pub returns-clause-line : goal.returns-clause-line
returns-clause-line c = asked _ _ _ _ _ _ c.take.ensures.line (λ line value read. search rules)

pub returns-clause-within : goal.returns-clause-within
returns-clause-within c =
    asked_within c.args.name.now c.args.least c.args.most _ _ _ _ _
    (asked _ _ _ _ _ _ c.take.ensures.line (λ line value read. search rules))
