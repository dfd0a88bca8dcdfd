use Rattle.std.proofs.Common.{◌∙◌, refl, is_some}
use Rattle.pla_reader.specs.Progress.{state_of}
use Rattle.pla_reader.proofs.LineLemmas.{refused, row_fault, headless_row, takes_row}
use Rattle.std.proofs.Math.Bool.{and-false}
use Rattle.pla_reader.proofs.progress.Progress.take_row.Goals as goal

pub returns-in_default : goal.returns-in_default
returns-in_default c before agrees =
    headless_row before (state_of c.args.self.now) _ agrees (rw c.in_default.is-1 (and-false (is_some c.args.self.now.inputs)))

pub returns-in_default-2 : goal.returns-in_default-2
returns-in_default-2 c before agrees =
    headless_row before (state_of c.args.self.now) _ agrees (rw c.in_default.is-0 refl)

pub returns-in_err-term : goal.returns-in_err-term
returns-in_err-term c before agrees =
    refused before _ _ c.from_residual.result c.in_err-term.field-0.0 c.from_residual.ensures.1
    (row_fault before (state_of c.args.self.now) _ _ _ agrees c.in-Some-Some.is-0 c.in-Some-Some.is-1 ∙ rw c.takes_dont_cares.ensures at c.in_err-term.ensures)

pub returns-in-Ok : goal.returns-in-Ok
returns-in-Ok c before agrees =
    takes_row before (state_of c.args.self.now) _ _ _ _ _ c.in-Ok.ensures.items c.in-Some-Some.is-0 c.in-Some-Some.is-1
    (rw c.takes_dont_cares.ensures at c.in_ok-term.ensures) agrees
