use Rattle.std.proofs.Common.{sym, subst, arith}
use Rattle.compaction.specs.Strips.{HoldsStrips, low_variables}
use Rattle.subfunction_classes.specs.Table.{classes_of}
use Rattle.compaction.proofs.HeldStrips.{holds_values}
use Rattle.compaction.proofs.strips.Strips.of_problem.Goals as goal

pub of_parts-requires : goal.of_parts-requires
of_parts-requires c =
    let p = c.args.problem.now in
    let n = c.inputs.ensures.value in
    let f = c.inputs.ensures.few in
    let m = c.outputs.ensures.value in
    let g = c.outputs.ensures.few in
    let h = c.outputs.ensures.some in
    let outer = c.in_ok-outer.field-0.outer.items in
    let numbers = c.in_ok-outer.field-0.numbers.items in
    (subst (HoldsStrips (classes_of p 0) (low_variables p) outer numbers)
    (sym (c.in_ok-masks.ensures.items_if_clones_equal (λ y e. e)))
    (holds_values p (omega arith) (omega arith) (omega arith) (low_variables p) outer numbers
    c.in_ok-outer.ensures))
