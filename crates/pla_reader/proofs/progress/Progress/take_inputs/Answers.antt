use Rattle.std.proofs.Common.{◌∙◌}
use Rattle.pla_reader.specs.Progress.{state_of}
use Rattle.pla_reader.proofs.LineLemmas.{refused, inputs_fault, takes_inputs}
use Rattle.pla_reader.proofs.progress.Progress.take_inputs.Goals as goal

pub returns-in_err-count : goal.returns-in_err-count
returns-in_err-count c before agrees =
    refused before _ _ c.from_residual.result c.in_err-count.field-0.0 c.from_residual.ensures.1
    (inputs_fault before (state_of c.args.self.now) _ agrees ∙ c.in_err-count.ensures)

pub returns : goal.returns
returns c before agrees = takes_inputs before (state_of c.args.self.now) _ c.in_ok-count.field-0 c.in_ok-count.ensures agrees
