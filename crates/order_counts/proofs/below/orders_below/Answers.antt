use Rattle.std.proofs.Common.{◌≡◌, ◌+◌, sum, sym, ap, ◌∙◌, arith, rules}
use Rattle.definitions.specs.Problems.{functions}
use Rattle.definitions.proofs.Precedence.Cycles.{acyclic_kept}
use Rattle.order_counts.specs.Sizes.{orders_below}
use Rattle.order_counts.proofs.Fewer.{below_counted, below_small, none_below}
use Rattle.order_counts.proofs.below.orders_below.Goals as goal

pub returns-in_default : goal.returns-in_default
returns-in_default g c =
    let n = c.args.pairs.now.inputs in
    let F = functions c.args.problem.now in
    let P = c.args.pairs.now.pairs in
    let none = c.in_default.ensures in
    let zero : c.args.nodes ≡ 0 = omega (arith, none) in
    sym (ap (orders_below n F P) zero ∙ none_below n F P)

pub sum_of-requires : goal.sum_of-requires
sum_of-requires g c =
    let n = c.args.pairs.now.inputs in
    let F = functions c.args.problem.now in
    let P = c.args.pairs.now.pairs in
    let kept = c.inputs.ensures.kept in
    let order = acyclic_kept n P kept.below kept.acyclic in
    let items = ap sum c.deref.ensures.value in
    let all = below_counted n F P c.in-Some.most c.in_ok-counts.counts c.in_ok-counts.ensures in
    omega (arith, items, all, below_small n F P order.0 order.2.is_order order.2.kept kept.few (c.in-Some.most + 1))

pub returns : goal.returns
returns g c =
    let n = c.args.pairs.now.inputs in
    let F = functions c.args.problem.now in
    let P = c.args.pairs.now.pairs in
    let above : c.in-Some.most + 1 ≡ c.args.nodes = search rules in
    c.sum_of.ensures ∙ ap sum c.deref.ensures.value ∙ below_counted n F P c.in-Some.most c.in_ok-counts.counts c.in_ok-counts.ensures
    ∙ ap (orders_below n F P) above
