use Rattle.std.proofs.Common.{sym, ◌∙◌, codes}
use Rattle.std.specs.String.{string_bytes}
use Rattle.std.proofs.lemmas.List.{length-map}
use Rattle.pla_reader.specs.Progress.{state_of}
use Rattle.pla_reader.proofs.NameLemmas.{names_number}
use Rattle.pla_reader.proofs.progress.Progress.finish.Goals as goal

pub new-requires-clause-input_names : goal.new-requires-clause-input_names
new-requires-clause-input_names c =
    sym (length-map c.in_ok-input_names.input_names.items string_bytes)
    ∙ names_number (state_of c.args.self).input_names c.args.self.inputs _ (codes "x") _ c.in-Some-Some.is-0 c.requires.input_names
    c.in_ok-input_names.ensures

pub new-requires-clause-output_names : goal.new-requires-clause-output_names
new-requires-clause-output_names c =
    sym (length-map c.in_ok-output_names.output_names.items string_bytes)
    ∙ names_number (state_of c.args.self).output_names c.args.self.outputs _ (codes "y") _ c.in-Some-Some.is-1 c.requires.output_names
    c.in_ok-output_names.ensures
