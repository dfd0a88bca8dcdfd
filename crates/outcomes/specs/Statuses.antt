-- Exit statuses, and how a refused file ends a run.
use Rattle.std.specs.Prelude.{◌≡◌, ◌⊎◌, ℕ, List, [], ◌∷◌}
use Rattle.counted_io.specs.Counts.{one_more}
use Rattle.command_line.specs.declared.usage.Usage.{Usage}
use Rattle.command_line.specs.declared.usage.Usage.TheVariants as usage
use Rattle.pla_reader.specs.declared.errors.PlaError.{PlaError}
use Rattle.pla_reader.specs.declared.errors.PlaError.TheVariants as pla
use Rattle.outcomes.specs.declared.outcome.Outcome.{Outcome}
use Rattle.outcomes.specs.declared.outcome.Outcome.TheVariants.{Done, Invalid, Refused}
use Rattle.outcomes.specs.declared.outcome.Fault.{Fault}
use Rattle.outcomes.specs.declared.outcome.Fault.TheVariants.{Line, TooLong, OutOfMemory, Device, StoreFull, Pairs, CertificateLine, CertificateTooLong}
use Rattle.certificate.specs.declared.faults.CertFault.{CertFault}
use Rattle.certificate.specs.declared.faults.CertFault.TheVariants as cert

-- the exit status of an outcome
abbrev pub status_of : Outcome → ℕ
status_of Done = 0
status_of Invalid = 1
status_of (Refused (Line line fault)) = 3
status_of (Refused TooLong) = 3
status_of (Refused OutOfMemory) = 4
status_of (Refused Device) = 5
status_of (Refused StoreFull) = 6
status_of (Refused (Pairs fault)) = 8
status_of (Refused (CertificateLine line fault)) = 3
status_of (Refused CertificateTooLong) = 3

-- why a file that gives no cover is refused
abbrev pub refusal_of : PlaError → Fault
refusal_of (pla.Line line fault) = Line line fault
refusal_of pla.TooLong = TooLong
refusal_of pla.Device = Device
refusal_of pla.OutOfMemory = OutOfMemory

-- why a text that is no certificate is refused
abbrev pub certificate_refusal : CertFault → Fault
certificate_refusal (cert.Line line fault) = CertificateLine line fault
certificate_refusal cert.TooLong = CertificateTooLong
certificate_refusal cert.OutOfMemory = OutOfMemory

-- help or the version was asked for
abbrev pub IsInformation : Usage → Type 0
IsInformation (usage.Information error) = Unit {0}
IsInformation _ = ⊥

-- words are refused
abbrev pub IsRefusal : Usage → Type 0
IsRefusal (usage.Refused error) = Unit {0}
IsRefusal _ = ⊥

-- the exit statuses of command lines that give no plan, of minorder, and of ordercheck; 6 is that of no run
abbrev pub usage_exits : List ℕ
usage_exits = 0 ∷ 2 ∷ 4 ∷ []

abbrev pub exits : List ℕ
exits = 0 ∷ 2 ∷ 3 ∷ 4 ∷ 5 ∷ 8 ∷ []

abbrev pub check_exits : List ℕ
check_exits = 0 ∷ 1 ∷ 2 ∷ 3 ∷ 4 ∷ 5 ∷ []

-- of the counts of failed calls, one of each device, one counts one more and the others stay
abbrev pub OneFails : List ℕ → List ℕ → Type 0
OneFails (failed ∷ others) (now ∷ others_now) =
    ((now ≡ one_more failed) × (others_now ≡ others)) ⊎ ((now ≡ failed) × OneFails others others_now)
OneFails _ _ = ⊥

-- how many calls of each device have failed, before and after
abbrev pub FailsOnlyByDevice : List ℕ → List ℕ → Outcome → Type 0
FailsOnlyByDevice before after (Refused Device) = OneFails before after
FailsOnlyByDevice before after _ = after ≡ before
