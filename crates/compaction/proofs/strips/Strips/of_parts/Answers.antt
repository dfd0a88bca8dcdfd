use Rattle.std.proofs.Common.{◌≡◌, ◌<◌, ℕ, get_or, length, refl, subst, sym, ap, arith}
use Rattle.std.proofs.lemmas.Grind.{common_steps}
use Rattle.compaction.specs.Strips.{AreDistinct, HoldsStripTable, low_variables}
use Rattle.subfunction_classes.specs.Table.{classes_of}
use Rattle.compaction.proofs.AllDistinct.{distinct_strips}
use Rattle.compaction.proofs.strips.Strips.of_parts.Goals as goal

pub of_count-requires : goal.of_count-requires
of_count-requires c =
    let outer = c.args.outer.items in
    let numbers = c.args.keys.numbers.items in
    let masks = c.args.keys.masks.items in
    let n : c.len-count.result ≡ length numbers = (let e = c.len-count.ensures in grind (arith, common_steps)) in
    let exact : length masks ≡ length numbers =
    (let e = c.len-count.ensures in let m = c.len.ensures in let t = c.if-len-count.true in grind (arith, common_steps)) in
    let full : (i : ℕ) → i < length masks → get_or masks i 0 ≡ c.args.set = grind (arith, common_steps) in
    subst (AreDistinct (classes_of c.args.problem.now c.args.set)) (sym n)
    (distinct_strips (classes_of c.args.problem.now c.args.set) (low_variables c.args.problem.now) outer numbers masks c.requires exact
    (λ i h. let v = ap length c.deref.ensures.value in let e = ap (λ us. get_or us i 0) c.deref.ensures.value in
    let t = c.if-are_in_order.ensures.up refl i (omega arith) in omega arith)
    (λ i h. let v = ap length c.deref-then-are_in_order.ensures.value in let e = ap (λ us. get_or us i 0) c.deref-then-are_in_order.ensures.value in
    let t = c.if-are_in_order-2.ensures.up refl i (omega arith) in omega arith)
    full)

pub invariant_of-result : goal.invariant_of-result
unfolding HoldsStripTable
invariant_of-result c = c.requires
