-- What minorder_check answers.
--     returned_verdict v      a verdict, as C is told it
--     IsNoCertificate text, RefusesText shape text r      why a text is refused
--     IsJudged given text cert v      the text spells the certificate, and this is the verdict on it
--     IsVerdictReturned given text returned      it spells some certificate, and this is the verdict on it, as C is told it
use Rattle.std.specs.Prelude.{◌≡◌, ℕ, ◌<◌, ◌⊎◌, List, length}
use Rattle.definitions.specs.Certificates.{Certificate}
use Rattle.certificate.specs.Faults.{FirstCertFault}
use Rattle.certificate.specs.declared.faults.LineFault.{LineFault}
use Rattle.certificate.specs.Heads.{most_bytes}
use Rattle.certificate.specs.Spelling.{spelling}
use Rattle.cert_check.specs.declared.verdict.Verdict.{Verdict}
use Rattle.cert_check.specs.declared.verdict.Verdict.TheVariants.{Valid, Invalid}
use Rattle.cert_check.specs.declared.verdict.Reason.TheVariants as why
use Rattle.cert_check.specs.Verdicts.{IsVerdict}
use Rattle.minorder_c.specs.declared.status.Refusal.{Refusal}
use Rattle.minorder_c.specs.declared.status.Refusal.TheVariants as refused
use Rattle.minorder_c.specs.declared.verdicts.ReturnedVerdict.{ReturnedVerdict}
use Rattle.minorder_c.specs.declared.arguments.GivenTables.{GivenTables}
use Rattle.minorder_c.specs.Answers.{functions_in}
use Rattle.minorder_c.specs.Statuses.{IsPlainStatus}

-- a reason without an edge
abbrev pub plain : ℕ → ReturnedVerdict
plain reason = record { reason = reason; mask = 0; variable = 0 }

-- a verdict, as C is told it
abbrev pub returned_verdict : Verdict → ReturnedVerdict
returned_verdict Valid = plain 0
returned_verdict (Invalid why.Shape) = plain 1
returned_verdict (Invalid why.Order) = plain 2
returned_verdict (Invalid why.Pairs) = plain 3
returned_verdict (Invalid why.Levels) = plain 4
returned_verdict (Invalid why.Total) = plain 5
returned_verdict (Invalid why.Start) = plain 6
returned_verdict (Invalid why.CellTooBig) = plain 7
returned_verdict (Invalid (why.Edge mask x)) = record { reason = 8; mask = mask; variable = x }

-- the text has a first fault, or is too long
abbrev pub IsNoCertificate : List ℕ → Type 0
IsNoCertificate text = ((line : ℕ) × (fault : LineFault) × FirstCertFault text line fault) ⊎ (most_bytes < length text)

-- tables without their shape, or a text that is no certificate, are refused for it; others only if memory is wanting
abbrev pub RefusesText : Type 0 → List ℕ → Refusal → Type 0
RefusesText shape text refused.Shape = shape → ⊥
RefusesText shape text refused.Certificate = shape × IsNoCertificate text
RefusesText shape text refused.OutOfMemory = shape
RefusesText shape text _ = ⊥

-- the text spells the certificate, and this is the verdict on it
pub record IsJudged (given : GivenTables) (text : List ℕ) (cert : Certificate) (v : Verdict) : Type 0 where
  pub text_is : text ≡ spelling cert
  pub verdict : IsVerdict given.inputs (functions_in given) cert v

-- the text spells a certificate, and this is the verdict on it, as C is told it
pub record IsVerdictReturned (given : GivenTables) (text : List ℕ) (returned : ReturnedVerdict) : Type 0 where
  pub cert : Certificate
  pub verdict : Verdict
  pub judged : IsJudged given text cert verdict
  pub returned_is : returned ≡ returned_verdict verdict

-- the numbers of a call with a certificate
abbrev pub IsTextStatus : ℕ → Type 0
IsTextStatus s = (s ≡ 3) ⊎ IsPlainStatus s
