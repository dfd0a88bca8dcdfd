use Rattle.std.proofs.Common.{◌<◌, ℕ, List, subst}
use Rattle.std.specs.List.{All}
use Rattle.definitions.proofs.Lists.Accepted.{member_small}
use Rattle.order_model.proofs.orders.Order.variables.Goals as goal

pub returns-clause-small : goal.returns-clause-small
returns-clause-small c = subst (λ (xs : List ℕ). All (λ x. x < 16) xs) c.self.view_is (member_small _ c.self.invariant)
