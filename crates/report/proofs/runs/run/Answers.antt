use Rattle.std.proofs.Common.{option_map, string_bytes, rules}
use Rattle.pla_reader.specs.Covers.{IsCover, NamedCover}
use Rattle.pla_reader.specs.Reading.{Reads}
use Rattle.outcomes.proofs.FailedCalls.{first_stays}
use Rattle.outcomes.proofs.Known.{with_known, with_read}
use Rattle.report_texts.specs.Runs.{Delivers, held}
use Rattle.report_texts.proofs.SentTexts.{delivers, good, hindered, optimum, tells}
use Rattle.report.proofs.runs.run.Goals as goal

pub returns : goal.returns
returns g c =
    let plan = c.args.plan.now in
    let texts = c.in-Ok-texts_for.texts in
    let report = string_bytes texts.report in
    let outcome = c.write_texts.result in
    let sends = c.write_texts.ensures.sends in
    let before = held (g.W.CountedWrite.contents c.args.out.now) (option_map g.C.CountedWrite.contents c.args.cert.now) in
    let after = held (g.W.CountedWrite.contents c.write_texts.new.out) (option_map g.C.CountedWrite.contents c.write_texts.new.cert) in
    let delivered : (IsRead : NamedCover → Type 0) → IsRead c.in-Ok.cover → Delivers plan IsRead before after outcome = λ IsRead read.
    delivers g.C.CountedWrite.contents plan IsRead c.in-Ok.cover report c.is_some.result texts.certificate
    (g.W.CountedWrite.contents c.args.out.now) c.args.cert.now after outcome read
    c.in-Ok-texts_for.ensures.report c.in-Ok-texts_for.ensures.certificate c.is_some.ensures sends in
    record {
      optimum = with_read _ c.in-Ok.cover _ c.in-Ok.ensures.answer
          (λ bytes reads. optimum plan bytes before after outcome (delivered (Reads bytes) reads));
      good = with_read _ c.in-Ok.cover _ c.in-Ok.ensures.answer
          (λ bytes reads. good plan bytes before after outcome (delivered (Reads bytes) reads));
      writes = with_read _ c.in-Ok.cover _ c.in-Ok.ensures.answer (λ bytes reads. delivered (Reads bytes) reads);
      writes_whatever_is_read = delivered IsCover c.in-Ok.ensures.formed;
      tells = with_known _ _ _ c.in-Ok.ensures.answer
          (λ bytes answer. tells plan bytes report texts.certificate before after outcome answer.0 sends);
      hindered_whatever_is_read = hindered plan IsCover report texts.certificate before after outcome sends;
      fails_only_by_device = first_stays _ _ _ _ outcome c.in-Ok.ensures.calls c.write_texts.ensures.devices;
      never_full = search rules;
    }
