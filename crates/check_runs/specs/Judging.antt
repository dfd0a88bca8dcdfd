-- What ordercheck decides and writes, by the bytes of the file and of the certificate.
--     Judge file text outcome line      the file's fault, else the certificate's, else the line of the verdict
--     ChecksAs file text before after outcome      what a check writes
--     Verdicts before after outcome      what it writes, whatever is known of its files
--     MayEndCheck fault      the faults that standard error may name
--     CheckEnds file cert before after outcome, OrdercheckEnds words status before after      how a check and ordercheck end
use Rattle.std.specs.Prelude.{◌≡◌, ◌⊎◌, ℕ, ◌<◌, ◌≤◌, List, [], length, take, Option, Result, Ok, Err, IfSome}
use Rattle.std.specs.Io.KnownBytes.{Appends}
use Rattle.definitions.specs.Certificates.{Certificate, Reason, IsGood, IsFirstReason}
use Rattle.certificate.specs.Faults.{FirstCertFault}
use Rattle.certificate.specs.Heads.{most_bytes}
use Rattle.pla_reader.specs.Covers.{NamedCover, functions_of}
use Rattle.pla_reader.specs.Reading.{FirstFault}
use Rattle.command_line.specs.declared.ordercheck_line.CheckLine.{CheckLine}
use Rattle.command_line.specs.Lines.{IsCheckLineOf, ordercheck}
use Rattle.command_line.specs.Usages.{AsksForInformation}
use Rattle.counted_io.specs.Counts.{one_more}
use Rattle.counted_io.specs.declared.whole.Refused.{Refused as NoBytes}
use Rattle.counted_io.specs.declared.whole.Refused.TheVariants as refused
use Rattle.outcomes.specs.declared.outcome.Fault.{Fault}
use Rattle.outcomes.specs.declared.outcome.Outcome.{Outcome}
use Rattle.outcomes.specs.declared.outcome.Outcome.TheVariants.{Done, Invalid, Refused}
use Rattle.outcomes.specs.declared.outcome.Fault.TheVariants.{Line, TooLong, OutOfMemory, Device, StoreFull, Pairs, CertificateLine, CertificateTooLong}
use Rattle.outcomes.specs.declared.fault_lines.Program.TheVariants.{Ordercheck}
use Rattle.outcomes.specs.Headline.{AcceptsTruly}
use Rattle.outcomes.specs.Limits.{ReadsWithin, SpellsWithin}
use Rattle.outcomes.specs.Programs.{ProgramEnds, Streams}
use Rattle.outcomes.specs.Statuses.{FailsOnlyByDevice}
use Rattle.pla_reader.specs.Answering.{longest}
use Rattle.check_runs.specs.VerdictTexts.{invalid_line, valid_line}

-- why the bytes of a certificate aren't there, as a fault
abbrev pub bytes_fault : NoBytes → Fault
bytes_fault refused.TooLong = CertificateTooLong
bytes_fault refused.Device = Device
bytes_fault refused.OutOfMemory = OutOfMemory

-- why the bytes of a certificate are refused
abbrev pub IsRefusedText : List ℕ → Fault → Type 0
IsRefusedText text (CertificateLine line fault) = (length text ≤ most_bytes) × FirstCertFault text line fault
IsRefusedText text CertificateTooLong = most_bytes < length text
IsRefusedText text Device = Unit {0}
IsRefusedText text OutOfMemory = Unit {0}
IsRefusedText text _ = ⊥

-- the faults that come of a certificate's bytes
abbrev pub IsTextFault : Fault → Type 0
IsTextFault (CertificateLine line fault) = Unit {0}
IsTextFault CertificateTooLong = Unit {0}
IsTextFault Device = Unit {0}
IsTextFault OutOfMemory = Unit {0}
IsTextFault _ = ⊥

-- how many calls of a certificate's reader have failed, by how many had before
abbrev pub failed_after : {A : Type 0} → Result A Fault → ℕ → ℕ
failed_after (Ok a) before = before
failed_after (Err Device) before = one_more before
failed_after (Err _) before = before

-- the line of a certificate for a cover: it is good, or this is the first reason why not
abbrev pub HasVerdict : NamedCover → Certificate → Outcome → List ℕ → Type 0
HasVerdict cover cert Done line = IsGood cover.inputs (functions_of cover) cert × (line ≡ valid_line cert)
HasVerdict cover cert Invalid line = (reason : Reason) × IsFirstReason cover.inputs (functions_of cover) cert reason
    × (line ≡ invalid_line reason)
HasVerdict cover cert (Refused fault) line = ⊥

-- what the bytes of the file and of the certificate lead to: the file's fault, else the certificate's, else the line of the verdict
abbrev pub Judge : List ℕ → List ℕ → Outcome → List ℕ → Type 0
Judge file text (Refused (Line line fault)) written = (length file ≤ longest) × FirstFault file line fault
    × (written ≡ [])
Judge file text (Refused TooLong) written = (longest < length file) × (written ≡ [])
Judge file text (Refused (CertificateLine line fault)) written =
    ((cover : NamedCover) × ReadsWithin file cover) × (length text ≤ most_bytes) × FirstCertFault text line fault
    × (written ≡ [])
Judge file text (Refused CertificateTooLong) written = ((cover : NamedCover) × ReadsWithin file cover)
    × (most_bytes < length text) × (written ≡ [])
Judge file text (Refused fault) written = ⊥
Judge file text outcome written =
    (cover : NamedCover) × (cert : Certificate) × ReadsWithin file cover × SpellsWithin text cert
    × HasVerdict cover cert outcome written

-- what a check writes: what the bytes lead to; nothing if it is out of memory; a beginning of the line after a failed call
abbrev pub ChecksAs : List ℕ → List ℕ → Option (List ℕ) → Option (List ℕ) → Outcome → Type 0
ChecksAs file text before after (Refused OutOfMemory) = after ≡ before
ChecksAs file text before after (Refused Device) =
    (after ≡ before) ⊎ ((outcome : Outcome) × (line : List ℕ) × (n : ℕ) × Judge file text outcome line
    × Appends before after (take n line))
ChecksAs file text before after outcome = (line : List ℕ) × Judge file text outcome line × Appends before after line

-- whatever is known of the files: a line is that of a verdict on some certificate for some cover, whole or after a failed write a beginning of it
abbrev pub Verdicts : Option (List ℕ) → Option (List ℕ) → Outcome → Type 0
Verdicts before after (Refused Device) =
    (after ≡ before) ⊎
    ((cover : NamedCover) × (cert : Certificate) × (outcome : Outcome) × (line : List ℕ) × (n : ℕ)
    × HasVerdict cover cert outcome line
    × Appends before after (take n line))
Verdicts before after (Refused StoreFull) = ⊥
Verdicts before after (Refused (Pairs fault)) = ⊥
Verdicts before after (Refused fault) = after ≡ before
Verdicts before after outcome = (cover : NamedCover) × (cert : Certificate) × (line : List ℕ)
    × HasVerdict cover cert outcome line × Appends before after line

-- the words ask for a check
abbrev pub IsCheckOf : List (List ℕ) → Type 0
IsCheckOf words = (line : CheckLine) × IsCheckLineOf words line

-- the words ask for a check, and this is what it leaves
abbrev pub Checks : List (List ℕ) → Option (List ℕ) → Option (List ℕ) → Outcome → Type 0
Checks words before after outcome = IsCheckOf words × Verdicts before after outcome

-- what the program writes that ends with status 0: help or the version, if clap answers the words with it, else the line of a good certificate of some cover
abbrev pub ChecksWell : List (List ℕ) → Option (List ℕ) → Option (List ℕ) → Type 0
ChecksWell words before after = AsksForInformation ordercheck words ⊎ Checks words before after Done

-- what it writes that ends with status 1: the line of the first reason why a certificate is not good
abbrev pub IsInvalid : List (List ℕ) → Option (List ℕ) → Option (List ℕ) → Type 0
IsInvalid words before after = Checks words before after Invalid

-- what it leaves if a device failed: nothing, or a beginning of the line of a verdict
abbrev pub ChecksInPart : List (List ℕ) → Option (List ℕ) → Option (List ℕ) → Type 0
ChecksInPart words before after = Checks words before after (Refused Device)

-- the faults that may end a check: none of a store and none of pairs
abbrev pub MayEndCheck : Fault → Type 0
MayEndCheck StoreFull = ⊥
MayEndCheck (Pairs fault) = ⊥
MayEndCheck fault = Unit {0}

-- what a check's output holds, if it is known, and how many calls of each of its devices have failed
pub record Devices : Type 0 where
  pub out : Option (List ℕ)
  pub failed : List ℕ

abbrev pub devices : Option (List ℕ) → List ℕ → Devices
devices out failed = record { out = out; failed = failed }

-- how a check ends, by the bytes of the file and of the certificate, if they are known, and by what its devices were before and after
pub record CheckEnds (file cert : Option (List ℕ)) (before after : Devices) (outcome : Outcome) : Type 0 where
  -- 0, the headline: an accepted certificate states truly that its order has its total and none has fewer nodes
  pub truth : IfSome file (λ bytes. IfSome cert (λ text. AcceptsTruly bytes text outcome))
  -- 0 and 1: the line of the verdict is written; 3: the first fault of the file, else of the certificate; 3 and 4: nothing is written
  pub checks : IfSome file (λ bytes. IfSome cert (λ text. ChecksAs bytes text before.out after.out outcome))
  pub verdicts_whatever_is_read : Verdicts before.out after.out outcome
  -- 5: only if a call of a device fails, or a count of failed calls stood at 2^64 - 1
  pub fails_only_by_device : FailsOnlyByDevice before.failed after.failed outcome

-- how ordercheck ends: its exit status, and what its streams hold before and after
pub record OrdercheckEnds (words : List (List ℕ)) (status : ℕ) (before after : Streams) : Type 0 where
  -- 0: help or the version was asked for, or the line of a good certificate of some cover is written
  pub done : status ≡ 0 → ChecksWell words before.out after.out
  -- 1: the line of the first reason why a certificate is not good is written
  pub certificate_is_invalid : status ≡ 1 → IsInvalid words before.out after.out
  -- 3: the words name a file and a certificate
  pub input_is_refused : status ≡ 3 → IsCheckOf words
  -- 5: so they do, and nothing is written or a beginning of the line of a verdict
  pub device_failed : status ≡ 5 → ChecksInPart words before.out after.out
  -- 2 and 4, and what standard error gets
  pub as_both_programs : ProgramEnds Ordercheck MayEndCheck words status before after
