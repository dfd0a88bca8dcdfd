use Rattle.std.proofs.Common.{◌≤◌, ◌<◌, ap, subst, ◌∙◌}
use Rattle.definitions.specs.Orders.{place_in}
use Rattle.sifting.specs.Moves.{IsMoved}
use Rattle.sifting.proofs.BestPlace.{best_is, passes_back, moved_on, finds_from}
use Rattle.sifting.proofs.manager.Manager.put_best.Goals as goal

pub lift-requires-clause-lawful : goal.lift-requires-clause-lawful
lift-requires-clause-lawful c =
    let self = c.args.self in
    let raised = c.in_ok-manager.manager in
    let top = c.in_ok-manager.top in
    let down = c.in_ok-down.down in
    let place = c.place_of-place.ensures.place ∙ ap (λ o. place_in o c.args.x) c.order.ensures.value in
    let up = subst (λ k. IsMoved k top self raised) place c.in_ok-manager.ensures.moved in
    let upward = subst (λ k. top ≤ k) place c.in_ok-manager.ensures.upward in
    let walk = c.in_ok-down.ensures in
    passes_back self raised down.manager c.args.x top down.place down.best.place down.best.size c.order.ensures.managed c.requires up upward
    c.in_ok-manager.ensures.stops
    (moved_on (place_in self.order c.args.x) top down.place self raised down.manager upward up walk.moved)
    (subst (λ n. down.place < n) up.length_stays walk.within) walk.stops
    (finds_from (place_in self.order c.args.x) top top down.place down.best.place down.best.size self raised upward up walk.best)

pub returns-clause-order : goal.returns-clause-order
returns-clause-order c =
    let self = c.args.self in
    let raised = c.in_ok-manager.manager in
    let top = c.in_ok-manager.top in
    let down = c.in_ok-down.down in
    let place = c.place_of-place.ensures.place ∙ ap (λ o. place_in o c.args.x) c.order.ensures.value in
    let up = subst (λ k. IsMoved k top self raised) place c.in_ok-manager.ensures.moved in
    let upward = subst (λ k. top ≤ k) place c.in_ok-manager.ensures.upward in
    let walk = c.in_ok-down.ensures in
    best_is self raised down.manager c.args.x top down.place down.best.place down.best.size c.order.ensures.managed c.requires up upward
    c.in_ok-manager.ensures.stops
    (moved_on (place_in self.order c.args.x) top down.place self raised down.manager upward up walk.moved)
    (subst (λ n. down.place < n) up.length_stays walk.within) walk.stops
    (finds_from (place_in self.order c.args.x) top top down.place down.best.place down.best.size self raised upward up walk.best)
    c.in_ok-manager-2.manager c.in_ok-manager-2.ensures
