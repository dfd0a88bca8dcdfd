use Rattle.std.proofs.Common.{◌≡◌, ℕ, ◌<◌, ◌^◌, List, false, refl, sym, subst, ◌∙◌, arith}
use Rattle.class_tables.specs.Scratch.{CountsMasks}
use Rattle.subfunction_classes.specs.Places as places
use Rattle.subfunction_classes.specs.Table.{ClassesOf, HoldsClasses, with_variable, functions_of, set_of, free_below}
use Rattle.subfunction_classes.proofs.CountedWidths.{width_is_dependent_classes}
use Rattle.subfunction_classes.specs.Numbering.{ranks}
use Rattle.subfunction_classes.specs.Places.{pairs}
use Rattle.definitions.specs.Widths.{same_pair, width}
use Rattle.definitions.specs.Orders.{has}
use Rattle.subfunction_classes.proofs.OneMoreVariable.{few_masks, few_of_most, holds_more, width_into}
use Rattle.class_tables.proofs.classes.Classes.width_in.Goals as goal

-- so many pairs with x are the width of x
width_counted : (t : ClassesOf) (x : ℕ) → x < t.problem.inputs → has (set_of t) x ≡ false → (numbers masks : List ℕ) (count : ℕ) →
    HoldsClasses t numbers masks →
    CountsMasks masks x (pairs numbers (2 ^ free_below t.set x)) count → count ≡ width t.problem.inputs (functions_of t) (set_of t) x
width_counted t x inside new numbers masks count h q =
    let k = holds_more t x inside new numbers masks (ranks same_pair (pairs numbers (2 ^ free_below t.set x))) q.joined h refl q.many q.labels in
    let w = width_into t x inside new in
    q.counted ∙ sym (width_is_dependent_classes t.problem.inputs (functions_of t) (set_of (with_variable t x)) q.joined x inside w.0 k.masks_are) ∙ w.1

pub count_joined-width-requires-clause-few : goal.count_joined-width-requires-clause-few
count_joined-width-requires-clause-few c =
    let p = c.pairs_by.ensures in
    few_masks c.args.self.now c.pairs_by.result.entries.numbers c.pairs_by.result.masks.now p.classes

pub count_joined-width-requires-clause-long : goal.count_joined-width-requires-clause-long
count_joined-width-requires-clause-long c =
    let p = c.pairs_by.ensures in
    omega (arith, few_of_most c.args.self.now c.pairs_by.result.entries.numbers c.pairs_by.result.masks.now p.classes, c.requires.long)

pub returns-clause-width : goal.returns-clause-width
returns-clause-width c =
    let p = c.pairs_by.ensures in
    let r = c.pairs_by.result in
    width_counted c.args.self.now c.args.x c.requires.inside c.requires.new r.entries.numbers r.masks.now c.count_joined-width.result p.classes
    (subst (λ z. z) (λ i. CountsMasks r.masks.now (p.variable i) (places.pairs r.entries.numbers (2 ^ p.rank i)) c.count_joined-width.result)
    c.count_joined-width.ensures.count)
