-- A certificate that a run wrote is accepted.
--     decided      what a check that decides writes
--     verdict      the verdict on a run's certificate
--     accepted      it is accepted
use Rattle.std.proofs.Common.{◌≡◌, ℕ, ◌≤◌, List, [], length, Option, Some, refl, sym, ap, subst}
use Rattle.std.specs.Borrow.{Bor}
use Rattle.std.specs.Io.KnownBytes.{Appends}
use Rattle.definitions.specs.Certificates.{Certificate, certificate_of, IsCertOf}
use Rattle.definitions.specs.KeptPairs.{KeptPairs}
use Rattle.definitions.specs.Levels.{size_under}
use Rattle.definitions.specs.Orders.{variables}
use Rattle.definitions.specs.Pairs.{Pair}
use Rattle.definitions.specs.Sifting.{sifted}
use Rattle.definitions.proofs.Certificates.Written.{cert_of_is_good}
use Rattle.definitions.proofs.Lists.Firsts.{first_keeping_unique}
use Rattle.certificate.specs.Faults.{Spells}
use Rattle.certificate.proofs.Lengths.{text_readable}
use Rattle.pla_reader.specs.Answering.{longest}
use Rattle.pla_reader.specs.Covers.{NamedCover, functions_of}
use Rattle.pla_reader.specs.Reading.{Reads}
use Rattle.command_line.specs.declared.line.Output.{Output}
use Rattle.command_line.specs.declared.line.Output.TheVariants.{Report, Count, Orders, Sizes}
use Rattle.command_line.specs.declared.line.RunPlan.{RunPlan}
use Rattle.outcomes.specs.declared.outcome.Outcome.{Outcome}
use Rattle.outcomes.specs.declared.outcome.Outcome.TheVariants.{Done, Invalid, Refused}
use Rattle.outcomes.specs.declared.outcome.Fault.TheVariants.{Line, TooLong, OutOfMemory, Device, StoreFull, Pairs, CertificateLine, CertificateTooLong}
use Rattle.outcomes.specs.Headline.{IsPrinted}
use Rattle.report_texts.specs.Answers.{IsAnswer, IsCertificate, IsText}
use Rattle.report_texts.specs.Runs.{Certifies, whole}
use Rattle.report_texts.specs.Texts.{levels_under, nodes_under, sizes_lines}
use Rattle.report_texts.proofs.OneAnswer.{pairs_unique}
use Rattle.check_runs.specs.Judging.{ChecksAs, Judge}
use Rattle.check_runs.specs.VerdictTexts.{valid_line}
use Rattle.check_runs.proofs.OneVerdict.{judge_unique}
use Rattle.round_trip.specs.RoundTrip.{AcceptsWritten, Decides, Wrote}

-- what a check that decides writes is what the bytes lead to
decided : (file text : List ℕ) (before after : Option (List ℕ)) (outcome : Outcome) → Decides outcome → ChecksAs file text before after outcome →
    (line : List ℕ) × Judge file text outcome line × Appends before after line
decided file text before after Done d c = c
decided file text before after Invalid d c = c
decided file text before after (Refused (Line line fault)) d c = c
decided file text before after (Refused TooLong) d c = c
decided file text before after (Refused OutOfMemory) d c = absurd (cc)
decided file text before after (Refused Device) d c = absurd (cc)
decided file text before after (Refused StoreFull) d c = absurd (cc)
decided file text before after (Refused (Pairs fault)) d c = absurd (cc)
decided file text before after (Refused (CertificateLine line fault)) d c = c
decided file text before after (Refused CertificateTooLong) d c = c

-- the order and the number of nodes of a certificate stand in the report of its cover
in_report : (cover : NamedCover) (P : List Pair) (text : List ℕ) (cert : Certificate) → IsAnswer cover P text →
    IsCertOf cover.inputs (functions_of cover) P cert → IsPrinted cover.input_names cert.order cert.total text
unfolding certificate_of size_under
in_report cover P text cert answer is =
    let n = cover.inputs in
    let F = functions_of cover in
    let same = first_keeping_unique n F P answer.best cert.order answer.first is.first in
    let total_is : cert.total ≡ size_under n F cert.order = ap (λ (c : Certificate). c.total) is.parts in
    let at : IsPrinted cover.input_names answer.best (size_under n F answer.best) text = record {
      levels = levels_under cover answer.best;
      their_sum = refl;
      rest = sizes_lines (sifted n F P answer.start) (nodes_under cover (sifted n F P answer.start)) (nodes_under cover (variables n));
      text_is = answer.is;
    } in
    let moved = subst (λ (order : List ℕ). IsPrinted cover.input_names order (size_under n F order) text) same at in
    subst (λ (total : ℕ). IsPrinted cover.input_names cert.order total text) (sym total_is) moved

-- the certificate of a run's cover, the verdict on it, and what the report says of it
pub record IsSeen (file written report : List ℕ) : Type 0 where
  pub cert : Certificate
  pub spelled : Spells written cert
  pub verdict : Judge file written Done (valid_line cert)
  pub names : List (List ℕ)
  pub printed : IsPrinted names cert.order cert.total report

seen_by : (cover : NamedCover) (P : List Pair) (file text written : List ℕ) → length file ≤ longest → Reads file cover →
    IsAnswer cover P text → IsCertificate cover P written → IsSeen file written text
seen_by cover P file text written few reads answer is = record {
  cert = is.cert;
  spelled = is.spells;
  verdict = (
    cover,
    is.cert,
    (few, reads),
    (text_readable written is.cert is.spells, is.spells),
    (cert_of_is_good cover.inputs (functions_of cover) P is.cert is.is, refl),
  );
  names = cover.input_names;
  printed = in_report cover P text is.cert answer is.is;
}

seen : (output : Output) (above : Option (Bor (List ℕ))) (cover : NamedCover) (file report text written : List ℕ) → output ≡ Report →
    length file ≤ longest → Reads file cover → IsText output above cover text → report ≡ text →
    Certifies output above cover whole (Some (Some [])) (Some (Some written)) → IsSeen file written report
seen Count above cover file report text written e few reads is same got = absurd (cc)
seen Orders above cover file report text written e few reads is same got = absurd (cc)
seen Sizes above cover file report text written e few reads is same got = absurd (cc)
seen Report above cover file report text written e few reads (kept, pairs, answer) same (t, (other, also, cert), put) =
    let one = pairs_unique above above cover.inputs kept other refl pairs also in
    let cert' = subst (λ (k : KeptPairs). IsCertificate cover k.pairs t) (sym one) cert in
    let here = seen_by cover kept.pairs file text t few reads answer cert' in
    subst (λ (r : List ℕ). IsSeen file written r) (sym same) (subst (λ (w : List ℕ). IsSeen file w text) (sym put) here)

pub accepted : (plan : RunPlan) (file report cert : List ℕ) (before after : Option (List ℕ)) (outcome : Outcome) →
    Wrote plan file report cert → Decides outcome → ChecksAs file cert before after outcome → AcceptsWritten cert report before after outcome
accepted plan file report cert before after outcome wrote decides checks =
    let d = wrote.delivers in
    let s = seen plan.output plan.above d.0 file report d.1 cert wrote.reports wrote.tells d.2 d.3 d.4 d.5 in
    let c = decided file cert before after outcome decides checks in
    let same = judge_unique file cert outcome Done c.0 (valid_line s.cert) c.1 s.verdict in record {
      done = same.0;
      cert = s.cert;
      spelled = s.spelled;
      line = subst (Appends before after) same.1 c.2;
      names = s.names;
      printed = s.printed;
    }
