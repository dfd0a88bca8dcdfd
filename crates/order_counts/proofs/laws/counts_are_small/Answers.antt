use Rattle.std.proofs.Common.{◌≡◌, ◌-◌, ◌^◌, ◌<◌, subst, sym, ap, ◌∙◌, arith}
use Rattle.definitions.specs.Orders.{members}
use Rattle.definitions.specs.AllOrders.{size_total, cost_total}
use Rattle.definitions.proofs.Widths.AllOrders.{members_all}
use Rattle.definitions.proofs.Widths.OrderSizes.{lists_bound, ways_bound, factorial_bound, total_small, size_total_is_cost_total}
use Rattle.order_counts.proofs.laws.counts_are_small.Goals as goal

pub returns-clause-lists : goal.returns-clause-lists
returns-clause-lists c = lists_bound

pub returns-clause-ways : goal.returns-clause-ways
returns-clause-ways c = ways_bound

pub returns-clause-factorials : goal.returns-clause-factorials
returns-clause-factorials c = λ k le. omega (arith, factorial_bound k le)

pub returns-clause-totals : goal.returns-clause-totals
returns-clause-totals c = total_small

pub returns-clause-sizes : goal.returns-clause-sizes
returns-clause-sizes c = λ n F P order o k few outputs.
    let e : cost_total n F P (members n (2 ^ n - 1)) ≡ size_total n F P = ap (cost_total n F P) (members_all n) ∙ sym
    (size_total_is_cost_total n P order o k F) in
    subst (λ s. s < 2 ^ 63) e (total_small n F P (2 ^ n - 1) few outputs)
