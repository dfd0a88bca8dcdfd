-- How ordercheck ends at words that ask for a check, by how the check ended.
--     decided      there is a verdict
--     refused      the check was refused, and standard error got the fault's line
use Rattle.std.proofs.Common.{ℕ, ◌≡◌, ◌⊎◌, inl, inr, List, Option, rules}
use Rattle.command_line.specs.Lines.{IsCheckLineOf}
use Rattle.command_line.specs.declared.ordercheck_line.CheckLine.{CheckLine}
use Rattle.outcomes.specs.declared.fault_lines.Program.TheVariants.{Ordercheck}
use Rattle.outcomes.specs.declared.outcome.Fault.{Fault}
use Rattle.outcomes.specs.declared.outcome.Fault.TheVariants.{Line, TooLong, OutOfMemory, Device, StoreFull, Pairs, CertificateLine, CertificateTooLong}
use Rattle.outcomes.specs.declared.outcome.Outcome.{Outcome}
use Rattle.outcomes.specs.declared.outcome.Outcome.TheVariants.{Done, Invalid, Refused}
use Rattle.outcomes.specs.Messages.{Receives, Writer, fault_line}
use Rattle.outcomes.specs.Programs.{streams}
use Rattle.outcomes.specs.Statuses.{status_of}
use Rattle.check_runs.specs.Judging.{OrdercheckEnds, Verdicts}

module _ (words : List (List ℕ)) (line : CheckLine) (is : IsCheckLineOf words line) (before after : Option (List ℕ)) (err err' : Writer) where
  pub decided : (outcome : Outcome) → (outcome ≡ Done) ⊎ (outcome ≡ Invalid) → Verdicts before after outcome → err'.holds ≡ err.holds →
      OrdercheckEnds words (status_of outcome) (streams before err) (streams after err')
  decided Done is_verdict verdict silent = search rules
  decided Invalid is_verdict verdict silent = search rules
  decided (Refused fault) (inl e) verdict silent = absurd (cc)
  decided (Refused fault) (inr e) verdict silent = absurd (cc)

  pub refused : (fault : Fault) → Verdicts before after (Refused fault) → Receives (fault_line Ordercheck fault) err err' →
      OrdercheckEnds words (status_of (Refused fault)) (streams before err) (streams after err')
  refused (Line number fault) verdict its_line = search rules
  refused TooLong verdict its_line = search rules
  refused OutOfMemory verdict its_line = search rules
  refused Device verdict its_line = search rules
  refused StoreFull verdict its_line = absurd verdict
  refused (Pairs fault) verdict its_line = absurd verdict
  refused (CertificateLine number fault) verdict its_line = search rules
  refused CertificateTooLong verdict its_line = search rules
