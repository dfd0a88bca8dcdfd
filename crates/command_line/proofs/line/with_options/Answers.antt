use Rattle.std.proofs.Common.{codes, refl}
use Rattle.command_line.specs.Lines.{option, with_outputs, workers_rule}
use Rattle.command_line.proofs.Added.{app_of-added, app_of-if_added}
use Rattle.std.proofs.Common.{ap, ◌∙◌}
use Rattle.command_line.proofs.line.with_options.Goals as goal

pub returns : goal.returns
returns c =
    let workers = app_of-added c.args.command c.workers_option.result _ workers_rule c.workers_option.ensures.local c.workers_option.ensures.rule refl
    c.in_ok-arg.field-0 c.in_ok-arg.ensures in
    let cert = app_of-added c.in_ok-arg.field-0 c.option.result _ (option (codes "cert")) c.option.ensures.local c.option.ensures.rule workers
    c.in_ok-command.command c.in_ok-command.ensures in
    app_of-if_added c.in_ok-with_outputs.field-0 c.option-2.result _ (option (codes "above")) c.option-2.ensures.local c.option-2.ensures.rule
    (c.in_ok-with_outputs.ensures ∙ ap with_outputs cert) c.arg-3.result c.arg-3.ensures
