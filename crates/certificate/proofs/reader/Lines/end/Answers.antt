use Rattle.std.proofs.Common.{◌∙◌, ap, [], ◌∷◌, codes, rules}
use Rattle.certificate.specs.Faults.{fixed_fault}
use Rattle.certificate.specs.Parsing.{outcome}
use Rattle.certificate.proofs.Outcomes.{asked, only_fails, ended, trailing_text}
use Rattle.std.proofs.lemmas.List.{nil_from_length}
use Rattle.certificate.proofs.reader.Lines.end.Goals as goal

pub returns-in_err-take-clause-failed : goal.returns-in_err-take-clause-failed
returns-in_err-take-clause-failed c =
    only_fails _ _ _ c.from_residual.ensures.1
    (asked {V = Unit {0}} (fixed_fault (codes "end" ∷ [])) (λ _ _. Unit {0}) _ _ _ _ c.in_err-take.ensures.line (λ line value read. search rules) [])

pub returns-then-not-is_empty-clause-failed : goal.returns-then-not-is_empty-clause-failed
returns-then-not-is_empty-clause-failed c =
    let asks = asked {V = Unit {0}} (fixed_fault (codes "end" ∷ [])) (λ _ _. Unit {0}) _ _ _ _ c.in_ok-take.ensures.line (λ line value read. search rules) in
    let more = trailing_text c.take.new.self.number c.take.new.self.rest.now (search rules) in (more.0, asks.3 [] ∙ more.1)

pub returns-clause-passed : goal.returns-clause-passed
returns-clause-passed c =
    let asks = asked {V = Unit {0}} (fixed_fault (codes "end" ∷ [])) (λ _ _. Unit {0}) _ _ _ _ c.in_ok-take.ensures.line (λ line value read. search rules) in
    asks.3 [] ∙ ap (outcome c.take.new.self.number []) (nil_from_length c.take.new.self.rest.now (search rules)) ∙ ended c.take.new.self.number
