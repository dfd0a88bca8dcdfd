-- What programs write to standard error of a fault.
--     fault_line program fault      the line that names a fault
--     Receives text before after      what a writer gets of a text
--     IsTold program MayEnd status before after      what it gets at a status that stands for faults
use Rattle.std.specs.Prelude.{◌≡◌, ◌⊎◌, ℕ, List, ◌++◌, take, codes, decimal, Option}
use Rattle.std.specs.Io.KnownBytes.{Appends}
use Rattle.counted_io.specs.Counts.{one_more}
use Rattle.definitions.specs.declared.faults.PairsFault.{PairsFault}
use Rattle.definitions.specs.declared.faults.PairsFault.TheVariants as pairs
use Rattle.pla_reader.specs.declared.errors.LineFault.{LineFault as FileFault}
use Rattle.pla_reader.specs.declared.errors.LineFault.TheVariants as file
use Rattle.certificate.specs.declared.faults.LineFault.{LineFault as CertificateFault}
use Rattle.certificate.specs.declared.faults.LineFault.TheVariants as cert
use Rattle.outcomes.specs.declared.fault_lines.Program.{Program}
use Rattle.outcomes.specs.declared.fault_lines.Program.TheVariants.{Minorder, Ordercheck}
use Rattle.outcomes.specs.declared.outcome.Fault.{Fault}
use Rattle.outcomes.specs.declared.outcome.Fault.TheVariants.{Line, TooLong, OutOfMemory, Device, StoreFull, Pairs, CertificateLine, CertificateTooLong}
use Rattle.outcomes.specs.declared.outcome.Outcome.TheVariants.{Refused}
use Rattle.outcomes.specs.Statuses.{status_of}

-- a program's name
abbrev pub program_name : Program → List ℕ
program_name Minorder = codes "minorder"
program_name Ordercheck = codes "ordercheck"

-- what is wrong with a line of a file, and of a certificate
abbrev pub file_kind : FileFault → List ℕ
file_kind file.MissingHead = codes "MissingHead"
file_kind file.RepeatedHead = codes "RepeatedHead"
file_kind file.InputCount = codes "InputCount"
file_kind file.OutputCount = codes "OutputCount"
file_kind file.BadNumber = codes "BadNumber"
file_kind file.NameCount = codes "NameCount"
file_kind file.BadName = codes "BadName"
file_kind file.UnknownDirective = codes "UnknownDirective"
file_kind file.UnsupportedType = codes "UnsupportedType"
file_kind file.DontCare = codes "DontCare"
file_kind file.BadInputChar = codes "BadInputChar"
file_kind file.BadOutputChar = codes "BadOutputChar"
file_kind file.ShortTerm = codes "ShortTerm"
file_kind file.LongTerm = codes "LongTerm"

abbrev pub certificate_kind : CertificateFault → List ℕ
certificate_kind cert.MissingLine = codes "MissingLine"
certificate_kind cert.BadLine = codes "BadLine"
certificate_kind cert.BadNumber = codes "BadNumber"
certificate_kind cert.NotRising = codes "NotRising"
certificate_kind cert.TrailingText = codes "TrailingText"

-- what is wrong with a list of pairs
abbrev pub pairs_kind : PairsFault → List ℕ
pairs_kind pairs.BadPair = codes "BadPair"
pairs_kind pairs.PairOutOfRange = codes "PairOutOfRange"
pairs_kind (pairs.PairCycle variable) = codes "PairCycle " ++ decimal variable

-- the words of a fault
abbrev pub fault_words : Fault → List ℕ
fault_words (Line number fault) = codes "line " ++ decimal number ++ codes ": " ++ file_kind fault
fault_words TooLong = codes "TooLong"
fault_words OutOfMemory = codes "OutOfMemory"
fault_words Device = codes "Device"
fault_words StoreFull = codes "StoreFull"
fault_words (Pairs fault) = pairs_kind fault
fault_words (CertificateLine number fault) =
    codes "certificate line " ++ decimal number ++ codes ": " ++ certificate_kind fault
fault_words CertificateTooLong = codes "certificate: TooLong"

-- the line that names a fault
unfoldable pub fault_line : Program → Fault → List ℕ
fault_line program fault = program_name program ++ codes ": " ++ fault_words fault ++ codes "\n"

-- a writer: the bytes that it holds, if they are known, and how many of its calls have failed
pub record Writer : Type 0 where
  pub holds : Option (List ℕ)
  pub failed : ℕ

abbrev pub writer : Option (List ℕ) → ℕ → Writer
writer holds failed = record { holds = holds; failed = failed }

-- the writer gets a text and no call of it fails, or a beginning of the text and one call of it fails
abbrev pub Receives : List ℕ → Writer → Writer → Type 0
Receives text before after =
    (Appends before.holds after.holds text × (after.failed ≡ before.failed))
    ⊎ (((n : ℕ) × Appends before.holds after.holds (take n text)) × (after.failed ≡ one_more before.failed))

-- the writer receives the line of a fault that the status stands for, one of those that may end the program
pub record IsTold (program : Program) (MayEnd : Fault → Type 0) (status : ℕ) (before after : Writer) : Type 0 where
  pub fault : Fault
  pub may_end : MayEnd fault
  pub stands_for_it : status_of (Refused fault) ≡ status
  pub its_line : Receives (fault_line program fault) before after
