use Rattle.std.proofs.Common.{◌≡◌, true, sym, ap, ◌∙◌, subst}
use Rattle.definitions.specs.Orders.{has, without}
use Rattle.definitions.specs.Widths.{width}
use Rattle.subfunction_classes.specs.Table.{ClassesOf, set_of, functions_of}
use Rattle.subfunction_classes.proofs.OneMoreVariable.{width_into}
use Rattle.class_tables.proofs.classes.Classes.width.Goals as goal

pub width_into-width-requires : goal.width_into-width-requires
width_into-width-requires c =
    let w = width_into c.args.self.now c.args.x c.requires.inside c.requires.new in
    subst (λ (t : ClassesOf). has (set_of t) c.args.x ≡ true) (sym c.in_ok-next.ensures) w.0

pub returns-clause-width : goal.returns-clause-width
returns-clause-width c =
    let w = width_into c.args.self.now c.args.x c.requires.inside c.requires.new in
    c.width_into-width.ensures
    ∙ ap (λ (t : ClassesOf). width t.problem.inputs (functions_of t) (without c.args.x (set_of t)) c.args.x) c.in_ok-next.ensures ∙ w.1
