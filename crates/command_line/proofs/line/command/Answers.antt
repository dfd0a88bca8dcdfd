use Rattle.std.proofs.Common.{◌≡◌, ap, codes, rules, ◌∙◌}
use Rattle.clap.specs.Words.{app_of}
use Rattle.command_line.specs.Lines.{named, required, with_options}
use Rattle.command_line.proofs.Added.{app_of-if_added}
use Rattle.command_line.proofs.line.command.Goals as goal

pub returns : goal.returns
returns c =
    let begun : app_of c.no_binary_name-command.result ≡ named (codes "minorder") = search rules in
    app_of-if_added c.in_ok-with_options.field-0 c.required_path.result (with_options (named (codes "minorder"))) (required (codes "FILE"))
    c.required_path.ensures.local c.required_path.ensures.rule (c.in_ok-with_options.ensures ∙ ap with_options begun) c.arg.result c.arg.ensures
