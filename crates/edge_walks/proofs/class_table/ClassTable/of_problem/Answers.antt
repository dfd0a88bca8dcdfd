use Rattle.std.proofs.Common.{refl, ap, ◌∙◌}
use Rattle.subfunction_classes.specs.Values.{class_count}
use Rattle.subfunction_classes.proofs.StartClasses.{holds_start}
use Rattle.edge_walks.proofs.class_table.ClassTable.of_problem.Goals as goal

pub invariant_of-result : goal.invariant_of-result
invariant_of-result c =
    let held = holds_start c.args.problem.now c.in_ok-numbers.numbers.items c.in_ok-masks.masks.items c.in_ok-numbers.ensures.inputs
    c.in_ok-numbers.ensures.outputs c.in_ok-numbers.ensures.some c.in_ok-numbers.ensures.numbers
    c.in_ok-masks.ensures.zeros (c.in_ok-masks.ensures.long ∙ ap class_count c.deref.ensures.value) in
    record { whole = c.in_ok-numbers.numbers.items; steps = 0; holds = held; short = refl }
