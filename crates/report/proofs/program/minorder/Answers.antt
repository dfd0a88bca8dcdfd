use Rattle.std.proofs.Common.{◌≡◌}
use Rattle.command_line.specs.Lines.{texts}
use Rattle.outcomes.specs.declared.outcome.Outcome.TheVariants.{Done, Refused}
use Rattle.report_texts.proofs.RunWords.{ends_done}
use Rattle.report.proofs.RunEndings.{done_ends, refused_ends}
use Rattle.report.proofs.program.minorder.Goals as goal
use Rattle.report.proofs.program.minorder.Goals.{in-Some, in_default}

pub returns : goal.returns
returns g c =
    let words = texts c.args.words.now in
    let line = c.in-Ok.line in
    let is_line = c.in-Ok.ensures.line in
    let outcome = c.run_on_files-outcome.result in
    let delivers = c.run_on_files-outcome.ensures.report in
    let before = g.W.CountedWrite.contents c.args.out.now in
    let after = g.W.CountedWrite.contents c.run_on_files-outcome.new.out in
    elim c.match-fault.branch [
      | in-Some w ↦
          let refused : outcome ≡ Refused w.in-Some.fault = w.in-Some.ensures.refused in
          rw (c.status.ensures, refused, w.err-is)
          (refused_ends words line is_line before after _ _ w.in-Some.fault (rw refused at delivers)
          (rw refused at c.run_on_files-outcome.ensures.hindered) w.write_fault.ensures)
      | in_default w ↦
          let done : outcome ≡ Done = ends_done line.plan before after outcome w.in_default.ensures.done delivers in
          rw (c.status.ensures, done) (done_ends words line is_line before after _ _ (rw done at delivers) (rw w.err-is))
    ]
