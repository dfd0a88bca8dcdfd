use Rattle.std.proofs.Common.{◌≡◌}
use Rattle.command_line.specs.Lines.{texts}
use Rattle.outcomes.specs.declared.outcome.Outcome.TheVariants.{Refused}
use Rattle.check_runs.proofs.CheckEndings.{decided, refused}
use Rattle.check_runs.proofs.program.ordercheck.Goals as goal
use Rattle.check_runs.proofs.program.ordercheck.Goals.{in-Some, in_default}

pub returns : goal.returns
returns g c =
    let words = texts c.args.words.now in
    let line = c.in-Ok.line in
    let is_line = c.in-Ok.ensures.line in
    let outcome = c.check_files-outcome.result in
    let verdict = c.check_files-outcome.ensures in
    let before = g.W.CountedWrite.contents c.args.out.now in
    let after = g.W.CountedWrite.contents c.check_files-outcome.new.out in
    elim c.match-fault.branch [
      | in-Some w ↦
          let is_refused : outcome ≡ Refused w.in-Some.fault = w.in-Some.ensures.refused in
          rw (c.status.ensures, is_refused, w.err-is)
          (refused words line is_line before after _ _ w.in-Some.fault (rw is_refused at verdict) w.write_fault.ensures)
      | in_default w ↦
          rw c.status.ensures (decided words line is_line before after _ _ outcome w.in_default.ensures.done verdict (rw w.err-is))
    ]
