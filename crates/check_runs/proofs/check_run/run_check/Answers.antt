use Rattle.std.proofs.Common.{ℕ, List, rules, subst}
use Rattle.std.specs.Io.KnownBytes.{Appends}
use Rattle.check_runs.proofs.CoverVerdicts.{accepted, checked, verdict_written}
use Rattle.outcomes.proofs.Known.{with_known, with_read}
use Rattle.check_runs.proofs.check_run.run_check.Goals as goal

pub returns-in-Err : goal.returns-in-Err
returns-in-Err g c = search rules

pub returns-in-Ok-write_whole : goal.returns-in-Ok-write_whole
returns-in-Ok-write_whole g c =
    let cover = c.in-Ok.cover in
    let cert = c.in-Ok-read_certificate.cert in
    let outcome = c.in-Ok-verdict_on.outcome in
    let verdict = c.in-Ok-verdict_on.ensures in
    let before = g.W.CountedWrite.contents c.args.out.now in
    let after = g.W.CountedWrite.contents c.write_whole.new.device in
    let written = subst (λ (text : List ℕ). Appends before after text) c.as_bytes.ensures.value c.in-Ok-write_whole.ensures.ok in
    record {
      truth =
          with_read _ cover _ c.in-Ok.ensures.answer
          (λ bytes reads. with_known _ _ _ c.in-Ok-read_certificate.ensures.cert
          (λ text spells. accepted cover cert bytes text outcome _ reads spells.1 verdict));
      checks =
          with_known _ _ _ c.in-Ok.ensures.answer
          (λ bytes reads. with_known _ _ _ c.in-Ok-read_certificate.ensures.cert
          (λ text spells. checked cover cert before after bytes text outcome _ reads spells verdict written));
      verdicts_whatever_is_read = verdict_written cover cert before after outcome _ verdict written;
      fails_only_by_device = search rules;
    }
