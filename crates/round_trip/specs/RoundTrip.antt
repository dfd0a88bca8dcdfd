-- A certificate on its way from a run to a check.
--     Wrote plan file report cert      a run that reports read the file, and its writers got a report and a certificate
--     Decides outcome      a check ended with 0, 1 or 3
--     AcceptsWritten text report before after outcome      a check accepted the certificate that a text spells, whose order and nodes a report prints
use Rattle.std.specs.Prelude.{◌≡◌, ℕ, List, [], ◌∷◌, Option, Some, IsTrue}
use Rattle.std.specs.Io.KnownBytes.{Appends}
use Rattle.definitions.specs.Orders.{has}
use Rattle.definitions.specs.Certificates.{Certificate}
use Rattle.certificate.specs.Faults.{Spells}
use Rattle.command_line.specs.declared.line.Output.TheVariants.{Report}
use Rattle.command_line.specs.declared.line.RunPlan.{RunPlan}
use Rattle.pla_reader.specs.Reading.{Reads}
use Rattle.outcomes.specs.declared.outcome.Outcome.{Outcome}
use Rattle.outcomes.specs.declared.outcome.Outcome.TheVariants.{Done}
use Rattle.outcomes.specs.Headline.{IsPrinted}
use Rattle.outcomes.specs.Statuses.{status_of}
use Rattle.report_texts.specs.Runs.{Delivers, Tells, held}
use Rattle.check_runs.specs.VerdictTexts.{valid_line}

-- a run that reports read the file and ended with 0, and its writers, empty before, got a report and a certificate
pub record Wrote (plan : RunPlan) (file report cert : List ℕ) : Type 0 where
  pub reports : plan.output ≡ Report
  pub tells : Tells plan file Done
  pub delivers : Delivers plan (Reads file) (held (Some []) (Some (Some []))) (held (Some report) (Some (Some cert))) Done

-- a check that was not out of memory, and of which no call failed
abbrev pub Decides : Outcome → Type 0
Decides outcome = IsTrue (has (0 ∷ 1 ∷ 3 ∷ []) (status_of outcome))

-- the line of the valid certificate that the text spells, whose order and number of nodes are those that the report prints
pub record AcceptsWritten (text report : List ℕ) (before after : Option (List ℕ)) (outcome : Outcome) : Type 0 where
  pub done : outcome ≡ Done
  pub cert : Certificate
  pub spelled : Spells text cert
  pub line : Appends before after (valid_line cert)
  pub names : List (List ℕ)
  pub printed : IsPrinted names cert.order cert.total report
