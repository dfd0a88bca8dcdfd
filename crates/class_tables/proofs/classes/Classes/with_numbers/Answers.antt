use Rattle.std.proofs.Common.{bit_or, sym, subst, arith}
use Rattle.std.proofs.lemmas.Nat.{one_shl}
use Rattle.subfunction_classes.specs.Table.{ClassesOf, HoldsClasses, classes_of}
use Rattle.class_tables.proofs.classes.Classes.with_numbers.Goals as goal

pub invariant_of-result : goal.invariant_of-result
invariant_of-result c =
    let few = c.requires.classes.few_inputs in
    let s = one_shl c.args.x 16 (omega (arith, c.requires.inside)) in
    subst (λ (z : ClassesOf). HoldsClasses z c.args.numbered.numbers.items c.args.numbered.masks.items)
    (λ i. classes_of (sym c.self.view_is i).problem (bit_or (sym c.self.view_is i).set (sym s i))) c.requires.classes
