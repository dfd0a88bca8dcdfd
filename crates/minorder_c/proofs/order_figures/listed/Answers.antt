use Rattle.std.proofs.Common.{◌≡◌, [], ◌++◌, take, get_or, ap, ◌∙◌, arith}
use Rattle.definitions.specs.Problems.{functions}
use Rattle.minorder_c.proofs.ListedWidths.{listed_more, listed_none}
use Rattle.minorder_c.proofs.order_figures.listed.Goals as goal

pub loop-i-init : goal.loop-i-init
loop-i-init c = c.in_ok-widths.ensures.items ∙ listed_none c.args.problem.now.inputs (functions c.args.problem.now)

pub loop-i-preserved : goal.loop-i-preserved
loop-i-preserved c =
    let n = c.args.problem.now.inputs in
    let F = functions c.args.problem.now in
    let k = c.loop-i.i in
    let e : c.from-n.result ≡ c.args.problem.now.inputs = c.from-n.ensures ∙ c.inputs.ensures.value in
    c.in_ok-extend_from_slice.ensures.items
    ∙ ap (λ m. c.loop-i.widths.items ++ take m (get_or c.args.rows.now c.loop-i.i [])) e
    ∙ ap (λ xs. xs ++ take c.args.problem.now.inputs (get_or c.args.rows.now c.loop-i.i [])) c.loop-i.invariant
    ∙ listed_more n F k (get_or c.args.rows.now c.loop-i.i []) (let a = c.inputs.ensures.few in let b = c.inputs.ensures.value in omega (arith, a, b))
    (c.told-rows k (let a = c.loop-i-test.true in omega (arith, a)))
    (c.requires.are k (let a = c.loop-i-test.true in let b = c.requires.each in omega (arith, a, b)))
