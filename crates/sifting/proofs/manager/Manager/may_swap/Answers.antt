use Rattle.std.proofs.Common.{◌<◌, length, get_or, ap, arith}
use Rattle.definitions.proofs.Lists.Orders.{has_at}
use Rattle.sifting.specs.Managed.{Managed}
use Rattle.sifting.proofs.manager.Manager.may_swap.Goals as goal

pub below-requires : goal.below-requires
below-requires c =
    let order = c.self.inside.order in
    let e = c.self.invariant.inputs in
    let long = ap (λ (m : Managed). length m.order) c.self.view_is in
    let r = c.requires in
    let lt : c.args.level < length order = omega arith in
    let small = (c.self.invariant.is_order.all (get_or order c.args.level 0)).0 (has_at order c.args.level lt) in
    let same = ap (λ xs. get_or xs c.args.level 0) c.variables-variables.ensures.value in
    omega arith
