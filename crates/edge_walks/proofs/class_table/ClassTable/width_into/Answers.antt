use Rattle.std.proofs.Common.{eqb, length, sym, ap, ◌∙◌, subst, arith}
use Rattle.std.specs.Int.{bit_at}
use Rattle.std.specs.List.{filter}
use Rattle.definitions.proofs.Bits.Masks.{members_small}
use Rattle.subfunction_classes.specs.Table.{set_of, functions_of}
use Rattle.subfunction_classes.proofs.CountedWidths.{width_is_dependent_classes}
use Rattle.subfunction_classes.proofs.OneMoreVariable.{few_masks}
use Rattle.edge_walks.specs.Tables.{HoldsTable, TableOf, classes_at}
use Rattle.edge_walks.proofs.Full.{full_width}
use Rattle.edge_walks.proofs.class_table.ClassTable.width_into.Goals as goal

pub count_with-requires-clause-variable : goal.count_with-requires-clause-variable
count_with-requires-clause-variable c = grind (arith, members_small)

pub count_with-requires-clause-few : goal.count_with-requires-clause-few
count_with-requires-clause-few c =
    let table =
    subst (λ (z : TableOf). HoldsTable z c.self.inside.full c.self.inside.numbers.items c.self.inside.masks.items) c.self.view_is
    c.self.invariant in
    let h = subst (λ f. HoldsTable c.args.self.now f c.self.inside.numbers.items c.self.inside.masks.items) c.in-None.is table in
    omega (arith, few_masks (classes_at c.args.self.now) h.whole c.self.inside.masks.items h.holds)

pub returns-in-Some : goal.returns-in-Some
returns-in-Some c = grind (arith, full_width)

pub returns-in-None : goal.returns-in-None
returns-in-None c =
    let table =
    subst (λ (z : TableOf). HoldsTable z c.self.inside.full c.self.inside.numbers.items c.self.inside.masks.items) c.self.view_is
    c.self.invariant in
    let h = subst (λ f. HoldsTable c.args.self.now f c.self.inside.numbers.items c.self.inside.masks.items) c.in-None.is table in
    let s = members_small c.args.self.now.problem.inputs c.args.self.now.set c.args.x c.requires in
    c.count_with.ensures ∙ ap (λ ms. length (filter (λ m. eqb (bit_at m c.args.x) 1) ms)) c.deref.ensures.value
    ∙ sym (width_is_dependent_classes c.args.self.now.problem.inputs (functions_of (classes_at c.args.self.now)) (set_of (classes_at c.args.self.now))
    c.self.inside.masks.items c.args.x s c.requires h.holds.masks_are)
