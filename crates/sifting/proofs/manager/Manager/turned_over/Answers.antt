use Rattle.std.proofs.Common.{◌<◌, length, ap, ◌∙◌, get_or, arith}
use Rattle.definitions.proofs.Lists.Orders.{has_at}
use Rattle.sifting.proofs.manager.Manager.turned_over.Goals as goal

pub place_of-place-requires : goal.place_of-place-requires
place_of-place-requires c =
    let k = c.loop-x.x-index in
    let start = c.in_ok-start.start in
    let same = c.variables-x-items.ensures.value in
    let long = ap length same in
    let t = c.loop-x-test.true in
    let inside : k < length start = omega arith in
    let below = (c.variables-x-items.ensures.order.all (get_or start k 0)).0 (has_at start k inside) in
    let at = ap (λ xs. get_or xs k 0) same in
    let first = ap length (c.in_ok-start.ensures ∙ c.order.ensures.value) in
    let stays = ap length c.order-in-loop-x.ensures.value ∙ c.loop-x.invariant.length_stays in
    omega arith
