use Rattle.std.proofs.Common.{◌<◌, ℕ, List, sym, arith, subst}
use Rattle.std.specs.List.{All}
use Rattle.definitions.specs.Diagrams.{nodes_at}
use Rattle.order_model.proofs.diagrams.Diagram.level_counts.Goals as goal

pub in_order-requires-clause-variables : goal.in_order-requires-clause-variables
in_order-requires-clause-variables c = subst (λ (xs : List ℕ). All (λ x. x < 16) xs) (sym c.variables.ensures.value) c.variables.ensures.small

pub returns-clause-counts : goal.returns-clause-counts
unfolding nodes_at
returns-clause-counts c = grind arith
