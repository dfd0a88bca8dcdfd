-- What a run answers and writes.
--     Held      what the writers of the report and of the certificate hold
--     Sends report text before after outcome      what the writers get of a report and of a certificate's text
--     Tells plan file outcome      what the outcome says of the bytes of the file
--     Delivers plan IsRead before after outcome      what the writers get, by what is known of the cover that was read
--     EndsWell words before after, EndsInPart words before after      what minorder writes that ends with the statuses 0 and 5
--     IsHindered plan IsRead outcome      which faults need a cover that was read
--     IsRunOf words, IsFaultyRunOf words      what words ask for that end with the statuses 3 and 8
--     MayEndRun words fault      the faults that standard error may name
--     LeaveTheSame plan other      what is written of a file by two plans is the same
--     RunEnds plan file before after outcome, MinorderEnds words status before after      how a run and minorder end
use Rattle.std.specs.Prelude.{◌≡◌, ◌≢◌, ◌⊎◌, ℕ, ◌<◌, ◌≤◌, List, length, take, Option, Some, None, Err, IfSome, String, option_map, string_bytes}
use Rattle.std.specs.Borrow.{Bor}
use Rattle.std.specs.Global.{Global}
use Rattle.std.specs.Io.KnownBytes.{Appends}
use Rattle.definitions.specs.Certificates.{Certificate, IsGood}
use Rattle.definitions.specs.declared.faults.PairsFault.{PairsFault}
use Rattle.certificate.specs.Faults.{Spells}
use Rattle.pla_reader.specs.Covers.{NamedCover, IsCover, functions_of}
use Rattle.pla_reader.specs.Answering.{longest}
use Rattle.pla_reader.specs.Reading.{Reads, FirstFault}
use Rattle.command_line.specs.declared.line.Output.{Output}
use Rattle.command_line.specs.declared.line.Output.TheVariants.{Report, Count}
use Rattle.command_line.specs.declared.line.RunPlan.{RunPlan}
use Rattle.command_line.specs.declared.line.Line.{Line as CommandLine}
use Rattle.command_line.specs.Lines.{IsLineOf, minorder}
use Rattle.command_line.specs.Usages.{AsksForInformation}
use Rattle.outcomes.specs.declared.outcome.Fault.{Fault}
use Rattle.outcomes.specs.declared.outcome.Outcome.{Outcome}
use Rattle.outcomes.specs.declared.outcome.Outcome.TheVariants.{Done, Invalid, Refused}
use Rattle.outcomes.specs.declared.outcome.Fault.TheVariants.{Line, TooLong, OutOfMemory, Device, StoreFull, Pairs, CertificateLine, CertificateTooLong}
use Rattle.report_texts.specs.Answers.{IsTextOf, IsCertificateOf, Hinders}
use Rattle.outcomes.specs.Headline.{PrintsOptimum}
use Rattle.outcomes.specs.Limits.{SpellsWithin}
use Rattle.outcomes.specs.Plans.{PairsAre}
use Rattle.outcomes.specs.Programs.{ProgramEnds, Streams}
use Rattle.outcomes.specs.Statuses.{FailsOnlyByDevice}
use Rattle.outcomes.specs.declared.fault_lines.Program.TheVariants.{Minorder}

-- what the writers hold, if it is known: that of the report, and that of the certificate, if there is one
pub record Held : Type 0 where
  pub out : Option (List ℕ)
  pub cert : Option (Option (List ℕ))

abbrev pub held : Option (List ℕ) → Option (Option (List ℕ)) → Held
held out cert = record { out = out; cert = cert }

-- a writer of certificates that may be missing gets the first bytes of a text
abbrev pub Gets : (List ℕ → Type 0) → (List ℕ → List ℕ) → Option (Option (List ℕ)) → Option (Option (List ℕ)) → Type 0
Gets IsIt part None after = after ≡ None
Gets IsIt part (Some before) None = ⊥
Gets IsIt part (Some before) (Some after) = (text : List ℕ) × IsIt text × Appends before after (part text)

-- a writer of certificates that may be missing gets a text that may be missing
abbrev pub GetsText : Option (List ℕ) → Option (Option (List ℕ)) → Option (Option (List ℕ)) → Type 0
GetsText None before after = after ≡ before
GetsText (Some text) None after = after ≡ None
GetsText (Some text) (Some before) None = ⊥
GetsText (Some text) (Some before) (Some after) = Appends before after text

-- the certificate's writer gets the certificate beside a report, and nothing beside other texts
abbrev pub Certifies : Output → Option (Bor (List ℕ)) → NamedCover → (List ℕ → List ℕ) → Option (Option (List ℕ)) →
    Option (Option (List ℕ)) → Type 0
Certifies Report above cover part before after = Gets (IsCertificateOf above cover) part before after
Certifies _ above cover part before after = after ≡ before

abbrev pub whole : List ℕ → List ℕ
whole text = text

-- the part of a text that may be missing
abbrev pub part_in : (List ℕ → List ℕ) → Option (String Global) → Option (List ℕ)
part_in part = option_map (λ text. part (string_bytes text))

-- after a failed write: a beginning of the certificate and no byte of the report, or the whole certificate and a beginning of the report
abbrev pub SendsPart : List ℕ → Option (String Global) → Held → Held → Type 0
SendsPart report text before after =
    ((after.out ≡ before.out) × (n : ℕ) × GetsText (part_in (take n) text) before.cert after.cert)
    ⊎ (GetsText (part_in whole text) before.cert after.cert × (n : ℕ) × Appends before.out after.out (take n report))

-- the writers get a report and a certificate, each if it has a writer and a text, or a part of them if a write fails
abbrev pub Sends : List ℕ → Option (String Global) → Held → Held → Outcome → Type 0
Sends report text before after Done = Appends before.out after.out report
    × GetsText (part_in whole text) before.cert after.cert
Sends report text before after (Refused Device) = SendsPart report text before after
Sends report text before after _ = ⊥

-- what the outcome says of the bytes of the file
abbrev pub Tells : RunPlan → List ℕ → Outcome → Type 0
Tells plan file Done = length file ≤ longest
Tells plan file Invalid = ⊥
Tells plan file (Refused (Line line fault)) = (length file ≤ longest) × FirstFault file line fault
Tells plan file (Refused TooLong) = longest < length file
Tells plan file (Refused OutOfMemory) = Unit {0}
Tells plan file (Refused Device) = Unit {0}
Tells plan file (Refused (CertificateLine line fault)) = ⊥
Tells plan file (Refused CertificateTooLong) = ⊥
Tells plan file (Refused fault) = (length file ≤ longest) × (cover : NamedCover) × Reads file cover
    × Hinders plan cover fault

-- what a failed write leaves: a beginning of the certificate and no byte of the report, or the whole certificate and a beginning of the report
abbrev pub LeavesPart : RunPlan → NamedCover → Held → Held → Type 0
LeavesPart plan cover before after =
    ((after.out ≡ before.out) × (n : ℕ) × Certifies plan.output plan.above cover (take n) before.cert after.cert)
    ⊎ (Certifies plan.output plan.above cover whole before.cert after.cert × (text : List ℕ) × (n : ℕ)
    × IsTextOf plan cover text
    × Appends before.out after.out (take n text))

-- what the writers get, by what is known of the cover: all texts, or after a failed write a part of them, or else nothing
abbrev pub Delivers : RunPlan → (NamedCover → Type 0) → Held → Held → Outcome → Type 0
Delivers plan IsRead before after Done = (cover : NamedCover) × (text : List ℕ) × IsRead cover
    × IsTextOf plan cover text × Appends before.out after.out text
    × Certifies plan.output plan.above cover whole before.cert after.cert
Delivers plan IsRead before after (Refused Device) = (after ≡ before)
    ⊎ ((cover : NamedCover) × IsRead cover × LeavesPart plan cover before after)
Delivers plan IsRead before after Invalid = ⊥
Delivers plan IsRead before after (Refused (CertificateLine line fault)) = ⊥
Delivers plan IsRead before after (Refused CertificateTooLong) = ⊥
Delivers plan IsRead before after (Refused fault) = after ≡ before

-- a text that is not too long to be read, and is read as a certificate and as no other, and it is good
abbrev pub ReadsAsGood : NamedCover → List ℕ → Type 0
ReadsAsGood cover text =
    (cert : Certificate) × SpellsWithin text cert × IsGood cover.inputs (functions_of cover) cert
    × ((other : Certificate) → Spells text other → other ≡ cert)

-- if a run that reports is done, what the certificate's writer got reads as a good certificate of the file's functions
abbrev pub WritesGood : RunPlan → List ℕ → Option (Option (List ℕ)) → Option (Option (List ℕ)) → Outcome → Type 0
WritesGood plan file before after Done = plan.output ≡ Report →
    (cover : NamedCover) × Reads file cover × Gets (ReadsAsGood cover) whole before after
WritesGood plan file before after (Refused fault) = Unit {0}
WritesGood plan file before after Invalid = Unit {0}

-- what a program writes to its output that ends with status 0: help or the version, if clap answers the words with it, else the text of some cover
abbrev pub EndsWell : List (List ℕ) → Option (List ℕ) → Option (List ℕ) → Type 0
EndsWell words before after =
    AsksForInformation minorder words ⊎
    ((line : CommandLine) × IsLineOf words line × (cover : NamedCover) × (text : List ℕ) × IsCover cover
    × IsTextOf line.plan cover text × Appends before after text)

-- what a run writes to its output, and how it ends
abbrev pub DeliversReport : RunPlan → (NamedCover → Type 0) → Option (List ℕ) → Option (List ℕ) → Outcome → Type 0
DeliversReport plan IsRead before after Done = (cover : NamedCover) × (text : List ℕ) × IsRead cover
    × IsTextOf plan cover text × Appends before after text
DeliversReport plan IsRead before after (Refused Device) =
    (after ≡ before) ⊎
    ((cover : NamedCover) × (text : List ℕ) × (n : ℕ) × IsRead cover × IsTextOf plan cover text
    × Appends before after (take n text))
DeliversReport plan IsRead before after Invalid = ⊥
DeliversReport plan IsRead before after (Refused (CertificateLine line fault)) = ⊥
DeliversReport plan IsRead before after (Refused CertificateTooLong) = ⊥
DeliversReport plan IsRead before after (Refused fault) = after ≡ before

-- what it leaves on its output if a device failed, which the words ask for: nothing, or a beginning of the text of some cover
abbrev pub EndsInPart : List (List ℕ) → Option (List ℕ) → Option (List ℕ) → Type 0
EndsInPart words before after = (line : CommandLine) × IsLineOf words line
    × ((after ≡ before) ⊎ ((cover : NamedCover) × (text : List ℕ) × (n : ℕ) × IsCover cover
    × IsTextOf line.plan cover text × Appends before after (take n text)))

-- no run meets a full store, and one whose pairs are faulty has read a cover that is hindered so
abbrev pub IsHindered : RunPlan → (NamedCover → Type 0) → Outcome → Type 0
IsHindered plan IsRead (Refused StoreFull) = ⊥
IsHindered plan IsRead (Refused (Pairs fault)) = (cover : NamedCover) × IsRead cover × Hinders plan cover (Pairs fault)
IsHindered plan IsRead _ = Unit {0}

-- the words ask for a run
abbrev pub IsRunOf : List (List ℕ) → Type 0
IsRunOf words = (line : CommandLine) × IsLineOf words line

-- the words ask for a run without count, with a list of pairs that is faulty for some cover
abbrev pub IsFaultyRunOf : List (List ℕ) → Type 0
IsFaultyRunOf words =
    (line : CommandLine) × IsLineOf words line × (line.plan.output ≢ Count) × (cover : NamedCover) × IsCover cover
    × (fault : PairsFault) × PairsAre line.plan.above cover.inputs (Err fault)

-- the faults that may end a run of the words: of pairs those of their list for some cover, and none of a certificate or a full store
abbrev pub MayEndRun : List (List ℕ) → Fault → Type 0
MayEndRun words (Pairs fault) =
    (line : CommandLine) × IsLineOf words line × (cover : NamedCover) × IsCover cover
    × PairsAre line.plan.above cover.inputs (Err fault)
MayEndRun words StoreFull = ⊥
MayEndRun words (CertificateLine line fault) = ⊥
MayEndRun words CertificateTooLong = ⊥
MayEndRun words fault = Unit {0}

-- the failed calls of a writer that may be missing
abbrev pub failures_in : {C : Type 0} → (C → ℕ) → Option C → ℕ
failures_in count None = 0
failures_in count (Some writer) = count writer

-- what runs of two plans leave: a cover has one text and one certificate, and if both are done, what is written of a file is the same
pub record LeaveTheSame (plan other : RunPlan) : Type 0 where
  pub reports : (cover : NamedCover) (a b : List ℕ) → IsTextOf plan cover a → IsTextOf other cover b → a ≡ b
  pub certificates : (cover : NamedCover) (a b : List ℕ) → IsCertificateOf plan.above cover a → IsCertificateOf other.above cover b → a ≡ b
  pub printed : (file before after later : List ℕ) (c d e f : Option (Option (List ℕ))) →
      Delivers plan (Reads file) (held (Some before) c) (held (Some after) d) Done →
      Delivers other (Reads file) (held (Some before) e) (held (Some later) f) Done → after ≡ later
  pub certified : (file before after later : List ℕ) (c d e f : Option (List ℕ)) →
      Delivers plan (Reads file) (held c (Some (Some before))) (held d (Some (Some after))) Done →
      Delivers other (Reads file) (held e (Some (Some before))) (held f (Some (Some later))) Done → after ≡ later

-- what a run's writers hold, and how many calls of each of its devices have failed
pub record Devices : Type 0 where
  pub held : Held
  pub failed : List ℕ

abbrev pub devices : Held → List ℕ → Devices
devices held failed = record { held = held; failed = failed }

-- how a run ends, by the bytes of its file, if they are known, and by what its devices were before and after
pub record RunEnds (plan : RunPlan) (file : Option (List ℕ)) (before after : Devices) (outcome : Outcome) : Type 0 where
  -- 0, the headline: the printed order is the first under which the file's functions have the fewest nodes
  pub optimum : IfSome file (λ bytes. PrintsOptimum plan bytes before.held.out after.held.out outcome)
  -- 0: what the certificate's writer got reads as a good certificate
  pub good : IfSome file (λ bytes. WritesGood plan bytes before.held.cert after.held.cert outcome)
  -- 0: the writers got all texts; 5: nothing, or a part of them; 3, 4 and 8: nothing
  pub writes : IfSome file (λ bytes. Delivers plan (Reads bytes) before.held after.held outcome)
  pub writes_whatever_is_read : Delivers plan IsCover before.held after.held outcome
  -- 3: the first fault of the file, or too many bytes; 8: the fault of the pairs
  pub tells : IfSome file (λ bytes. Tells plan bytes outcome)
  pub hindered_whatever_is_read : IsHindered plan IsCover outcome
  -- 5: only if a call of a device fails, or a count of failed calls stood at 2^64 - 1
  pub fails_only_by_device : FailsOnlyByDevice before.failed after.failed outcome
  -- 6: never
  pub never_full : outcome ≢ Refused StoreFull

-- how minorder ends: its exit status, and what its streams hold before and after
pub record MinorderEnds (words : List (List ℕ)) (status : ℕ) (before after : Streams) : Type 0 where
  -- 0: help or the version was asked for, or the text of some cover is written
  pub done : status ≡ 0 → EndsWell words before.out after.out
  -- 3: the words ask for a run
  pub file_is_refused : status ≡ 3 → IsRunOf words
  -- 5: so they do, and nothing is written or a beginning of such a text
  pub device_failed : status ≡ 5 → EndsInPart words before.out after.out
  -- 8: they ask for a run without count, and the list of pairs is faulty for some cover
  pub pairs_are_refused : status ≡ 8 → IsFaultyRunOf words
  -- 2 and 4, and what standard error gets
  pub as_both_programs : ProgramEnds Minorder (MayEndRun words) words status before after
