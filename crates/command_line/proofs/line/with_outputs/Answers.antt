use Rattle.std.proofs.Common.{codes, refl}
use Rattle.command_line.specs.Lines.{flag}
use Rattle.command_line.proofs.Added.{app_of-added, app_of-if_added}
use Rattle.command_line.proofs.line.with_outputs.Goals as goal

pub returns : goal.returns
returns c =
    let count = app_of-added c.args.command c.flag.result _ (flag (codes "count")) c.flag.ensures.local c.flag.ensures.rule refl
    c.in_ok-arg.field-0 c.in_ok-arg.ensures in
    let orders = app_of-added c.in_ok-arg.field-0 c.flag-2.result _ (flag (codes "orders")) c.flag-2.ensures.local c.flag-2.ensures.rule count
    c.in_ok-arg-2.field-0 c.in_ok-arg-2.ensures in
    app_of-if_added c.in_ok-arg-2.field-0 c.flag-3.result _ (flag (codes "sizes")) c.flag-3.ensures.local c.flag-3.ensures.rule orders
    c.arg-3.result c.arg-3.ensures
