use Rattle.std.proofs.Common.{◌<◌, not, ap, sym, ◌∙◌, subst, arith}
use Rattle.std.proofs.lemmas.Bool.{iff_false, not-true, false_from_ne_true}
use Rattle.std.proofs.lemmas.Nat.Bits.{shr_and_one, bit_at-lt}
use Rattle.definitions.specs.Orders.{has}
use Rattle.subfunction_classes.specs.Table.{ClassesOf, set_of}
use Rattle.subfunction_classes.proofs.LowSets.{bit_unset, unset_bit}
use Rattle.class_tables.proofs.classes.Classes.lacks.Goals as goal

pub returns-then-x-inputs-clause-new : goal.returns-then-x-inputs-clause-new
returns-then-x-inputs-clause-new c = grind (arith, iff_false, not-true, bit_at-lt, shr_and_one, bit_unset)

pub returns-then-x-inputs-clause-all : goal.returns-then-x-inputs-clause-all
returns-then-x-inputs-clause-all c = λ lt f.
    let set = c.self.inside.set in
    let s = shr_and_one set c.args.x in
    let zero = unset_bit c.self.inside.problem.now.inputs set c.args.x
    (subst (λ (z : ClassesOf). c.args.x < z.problem.inputs) (sym c.self.view_is) lt)
    (ap (λ (z : ClassesOf). has (set_of z) c.args.x) c.self.view_is ∙ f) in
    ap not (false_from_ne_true c.contains.result (λ t. let one = c.contains.ensures.0 t in omega arith))
