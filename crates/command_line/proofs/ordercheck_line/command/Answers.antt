use Rattle.std.proofs.Common.{◌≡◌, codes, rules}
use Rattle.clap.specs.Words.{app_of}
use Rattle.command_line.specs.Lines.{named, required}
use Rattle.command_line.proofs.Added.{app_of-added, app_of-if_added}
use Rattle.command_line.proofs.ordercheck_line.command.Goals as goal

pub returns : goal.returns
returns c =
    let begun : app_of c.no_binary_name-command.result ≡ named (codes "ordercheck") = search rules in
    let file = app_of-added c.no_binary_name-command.result c.required_path.result (named (codes "ordercheck")) (required (codes "FILE"))
    c.required_path.ensures.local c.required_path.ensures.rule begun c.in_ok-arg.field-0 c.in_ok-arg.ensures in
    app_of-if_added c.in_ok-arg.field-0 c.required_path-2.result _ (required (codes "CERT")) c.required_path-2.ensures.local
    c.required_path-2.ensures.rule file c.arg-2.result c.arg-2.ensures
