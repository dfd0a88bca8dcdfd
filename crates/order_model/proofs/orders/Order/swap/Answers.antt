use Rattle.std.proofs.Common.{◌+◌, ◌<◌, List, ℕ, length, swap, sym, ap, subst, ◌∙◌}
use Rattle.definitions.specs.OrderFaults.{Accepts}
use Rattle.definitions.proofs.Lists.Swaps.{accepts_swap}
use Rattle.order_model.proofs.orders.Order.swap.Goals as goal

pub invariant_of-self : goal.invariant_of-self
invariant_of-self c =
    let inside = subst (λ (xs : List ℕ). c.args.level + 1 < length xs) (sym c.self.view_is) c.requires in
    subst Accepts (sym c.swap.ensures.items) (accepts_swap c.self.inside.variables.items c.args.level inside c.self.invariant)

pub returns : goal.returns
returns c = c.swap.ensures.items ∙ ap (λ (xs : List ℕ). swap xs c.args.level (c.args.level + 1)) c.self.view_is
