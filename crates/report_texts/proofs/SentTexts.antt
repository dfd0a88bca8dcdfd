-- What a run answers and writes, by what its writers were sent.
--     delivers      they get the texts of the cover
--     tells, hindered      what the outcome says
--     good, optimum      what they hold after a run that reports
use Rattle.std.proofs.Common.{◌≡◌, inl, inr, ℕ, ◌≤◌, Bool, List, length, take, Option, String, is_some, option_map}
use Rattle.std.specs.Global.{Global}
use Rattle.pla_reader.specs.Answering.{longest}
use Rattle.pla_reader.specs.Covers.{NamedCover}
use Rattle.pla_reader.specs.Reading.{Reads}
use Rattle.command_line.specs.declared.line.RunPlan.{RunPlan}
use Rattle.outcomes.specs.declared.outcome.Fault.TheVariants.{Line, TooLong, OutOfMemory, Device, StoreFull, Pairs, CertificateLine, CertificateTooLong}
use Rattle.outcomes.specs.declared.outcome.Outcome.{Outcome}
use Rattle.outcomes.specs.declared.outcome.Outcome.TheVariants.{Done, Invalid, Refused}
use Rattle.outcomes.specs.Headline.{PrintsOptimum}
use Rattle.report_texts.specs.Answers.{HasCertificate, IsTextOf}
use Rattle.report_texts.specs.Runs.{Delivers, Held, IsHindered, Sends, Tells, WritesGood, held, whole}
use Rattle.report_texts.proofs.WriterPaths.{certified_part, good_written}
use Rattle.report_texts.proofs.Optima.{printed}

pub delivers : {C : Type 0} (contents : C → Option (List ℕ)) (plan : RunPlan) (IsRead : NamedCover → Type 0) (cover : NamedCover)
    (report : List ℕ) (asked : Bool) (text : Option (String Global)) (out : Option (List ℕ)) (cert : Option C) (after : Held) (outcome : Outcome) →
    IsRead cover → IsTextOf plan cover report → HasCertificate plan.output plan.above cover asked text → asked ≡ is_some cert →
    Sends report text (held out (option_map contents cert)) after outcome →
    Delivers plan IsRead (held out (option_map contents cert)) after outcome
delivers contents plan IsRead cover report asked text out cert after Done read is has same (got, certified) = (
  cover,
  report,
  read,
  is,
  got,
  certified_part contents plan.output plan.above cover asked text whole cert after.cert has same certified,
)
delivers contents plan IsRead cover report asked text out cert after (Refused Device) read is has same (inl (kept, n, begun)) =
    inr (cover, read, inl (kept, n, certified_part contents plan.output plan.above cover asked text (take n) cert after.cert has same begun))
delivers contents plan IsRead cover report asked text out cert after (Refused Device) read is has same (inr (certified, n, begun)) =
    inr (
      cover,
      read,
      inr (certified_part contents plan.output plan.above cover asked text whole cert after.cert has same certified, report, n, is, begun),
    )
delivers contents plan IsRead cover report asked text out cert after Invalid read is has same sent = absurd sent
delivers contents plan IsRead cover report asked text out cert after (Refused (Line line fault)) read is has same sent = absurd sent
delivers contents plan IsRead cover report asked text out cert after (Refused TooLong) read is has same sent = absurd sent
delivers contents plan IsRead cover report asked text out cert after (Refused OutOfMemory) read is has same sent = absurd sent
delivers contents plan IsRead cover report asked text out cert after (Refused StoreFull) read is has same sent = absurd sent
delivers contents plan IsRead cover report asked text out cert after (Refused (Pairs fault)) read is has same sent = absurd sent
delivers contents plan IsRead cover report asked text out cert after (Refused (CertificateLine line fault)) read is has same sent = absurd sent
delivers contents plan IsRead cover report asked text out cert after (Refused CertificateTooLong) read is has same sent = absurd sent

pub tells : (plan : RunPlan) (file report : List ℕ) (text : Option (String Global)) (before after : Held) (outcome : Outcome) →
    length file ≤ longest → Sends report text before after outcome → Tells plan file outcome
tells plan file report text before after Done few sent = few
tells plan file report text before after Invalid few sent = sent
tells plan file report text before after (Refused (Line line fault)) few sent = absurd sent
tells plan file report text before after (Refused TooLong) few sent = absurd sent
tells plan file report text before after (Refused OutOfMemory) few sent = absurd sent
tells plan file report text before after (Refused Device) few sent = record {}
tells plan file report text before after (Refused StoreFull) few sent = absurd sent
tells plan file report text before after (Refused (Pairs fault)) few sent = absurd sent
tells plan file report text before after (Refused (CertificateLine line fault)) few sent = absurd sent
tells plan file report text before after (Refused CertificateTooLong) few sent = absurd sent

pub hindered : (plan : RunPlan) (IsRead : NamedCover → Type 0) (report : List ℕ) (text : Option (String Global)) (before after : Held)
    (outcome : Outcome) → Sends report text before after outcome → IsHindered plan IsRead outcome
hindered plan IsRead report text before after Done sent = record {}
hindered plan IsRead report text before after Invalid sent = record {}
hindered plan IsRead report text before after (Refused (Line line fault)) sent = record {}
hindered plan IsRead report text before after (Refused TooLong) sent = record {}
hindered plan IsRead report text before after (Refused OutOfMemory) sent = record {}
hindered plan IsRead report text before after (Refused Device) sent = record {}
hindered plan IsRead report text before after (Refused StoreFull) sent = absurd sent
hindered plan IsRead report text before after (Refused (Pairs fault)) sent = absurd sent
hindered plan IsRead report text before after (Refused (CertificateLine line fault)) sent = record {}
hindered plan IsRead report text before after (Refused CertificateTooLong) sent = record {}

pub good : (plan : RunPlan) (file : List ℕ) (before after : Held) (outcome : Outcome) → Delivers plan (Reads file) before after outcome →
    WritesGood plan file before.cert after.cert outcome
good plan file before after Done (cover, text, reads, is, got, certified) =
    λ e. (cover, reads, good_written plan.output plan.above cover before.cert after.cert e certified)
good plan file before after Invalid delivered = record {}
good plan file before after (Refused fault) delivered = record {}

pub optimum : (plan : RunPlan) (file : List ℕ) (before after : Held) (outcome : Outcome) → Delivers plan (Reads file) before after outcome →
    PrintsOptimum plan file before.out after.out outcome
optimum plan file before after Done (cover, text, reads, is, got, certified) =
    λ e. (text, got, printed file cover plan.output plan.above text e reads is)
optimum plan file before after Invalid delivered = record {}
optimum plan file before after (Refused fault) delivered = record {}
