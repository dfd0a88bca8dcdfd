use Rattle.std.proofs.Common.{ℕ, ◌^◌, count_ones, ap, ◌∙◌, arith}
use Rattle.std.proofs.lemmas.Nat.{one_shl}
use Rattle.solutions.proofs.WidthCounts.{widths_start, widths_next, widths_whole}
use Rattle.solutions.proofs.ReadOrders.{pow_some}
use Rattle.solutions.proofs.width_counts.count_widths.Goals as goal

pub loop-number-init : goal.loop-number-init
loop-number-init c = widths_start c.args.cells.now

pub loop-number-preserved : goal.loop-number-preserved
loop-number-preserved c =
    let few = c.inputs.ensures.few in
    let v = c.inputs.ensures.value in
    widths_next c.args.cells.now c.loop-number.number c.loop-number.count c.from-count.result c.loop-number.invariant
    (omega (arith, few, v)) (c.from-count.ensures ∙ ap count_ones c.needed_members.ensures)

pub returns : goal.returns
returns c =
    let e = c.inputs.ensures in
    let s = one_shl c.inputs.result 32 (let f = e.few in omega (arith, f)) in
    let p = ap (λ (k : ℕ). 2 ^ k) e.value in
    let f = c.loop-number-test.false in
    let q = pow_some c.inputs.result in
    let m = c.loop-number.auto.number-end (omega (arith, s, q)) in
    widths_whole c.args.cells.now c.loop-number.number c.loop-number.count c.loop-number.invariant (omega (arith, s, p, f, m))
