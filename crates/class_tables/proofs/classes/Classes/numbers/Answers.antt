use Rattle.std.proofs.Common.{◌∙◌, subst}
use Rattle.subfunction_classes.specs.Table.{ClassesOf, HoldsClasses}
use Rattle.class_tables.proofs.classes.Classes.numbers.Goals as goal

pub returns : goal.returns
returns c =
    let h = subst (λ (z : ClassesOf). HoldsClasses z c.self.inside.numbers.items c.self.inside.masks.items) c.self.view_is c.self.invariant in
    c.as_slice.ensures.value ∙ h.classes
