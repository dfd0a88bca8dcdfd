use Rattle.std.proofs.Common.{◌∙◌}
use Rattle.pla_reader.specs.Progress.{state_of}
use Rattle.pla_reader.proofs.LineLemmas.{refused, type_line_fault, takes_type}
use Rattle.pla_reader.proofs.progress.Progress.take_type.Goals as goal

pub returns-in_err-kind : goal.returns-in_err-kind
returns-in_err-kind c before agrees =
    refused before _ _ c.from_residual.result c.in_err-kind.field-0.0 c.from_residual.ensures.1
    (type_line_fault before (state_of c.args.self.now) _ agrees
    ∙ rw c.is_some.ensures at (rw c.has_terms.ensures at c.in_err-kind.ensures))

pub returns : goal.returns
returns c before agrees =
    takes_type before (state_of c.args.self.now) _ c.in_ok-kind.kind
    (rw c.is_some.ensures at (rw c.has_terms.ensures at c.in_ok-kind.ensures)) agrees
