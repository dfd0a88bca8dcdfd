use Rattle.std.proofs.Common.{◌≡◌, refl, subst, sym, rules}
use Rattle.definitions.specs.OrderFaults.{Accepts}
use Rattle.definitions.proofs.Lists.Accepted.{accepts_distinct}
use Rattle.order_model.proofs.orders.Order.try_from_slice.Goals as goal

pub returns-in-Ok-clause-accepted : goal.returns-in-Ok-clause-accepted
returns-in-Ok-clause-accepted c = accepts_distinct c.args.variables.now (c.if-not-is_in_range.ensures.0 refl) (c.if-has_repeat.ensures.distinct refl)

pub invariant_of-result : goal.invariant_of-result
invariant_of-result c =
    let e : c.in-Ok.variables.items ≡ c.args.variables.now = search rules in
    subst Accepts (sym e) (accepts_distinct c.args.variables.now (c.if-not-is_in_range.ensures.0 refl) (c.if-has_repeat.ensures.distinct refl))
