use Rattle.std.proofs.Common.{◌∙◌}
use Rattle.pla_reader.specs.Progress.{state_of}
use Rattle.pla_reader.proofs.LineLemmas.{some_kept, refused, output_names_fault, takes_output_names}
use Rattle.pla_reader.proofs.progress.Progress.take_output_names.Goals as goal

pub returns-in_err-check_names : goal.returns-in_err-check_names
returns-in_err-check_names c before agrees =
    refused before _ _ c.from_residual.result c.in_err-check_names.field-0.0 c.from_residual.ensures.1
    (output_names_fault before (state_of c.args.self.now) _ _ (c.is_some.ensures ∙ some_kept _ c.args.self.now.output_names) agrees
    ∙ c.in_err-check_names.ensures)

pub returns : goal.returns
returns c before agrees =
    takes_output_names before (state_of c.args.self.now) _ _ _ (c.is_some.ensures ∙ some_kept _ c.args.self.now.output_names)
    c.in_ok-names.ensures c.in_ok-check_names.ensures.0 c.in_ok-check_names.ensures.1 agrees
