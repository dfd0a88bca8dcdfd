use Rattle.definitions.proofs.Widths.Fewest.{ground}
use Rattle.definitions.proofs.Widths.AllOrders.{most_empty}
use Rattle.definitions.proofs.Widths.OrderSizes.{most_recur}
use Rattle.order_counts.proofs.laws.greatest_costs_recur.Goals as goal

pub returns-clause-empty : goal.returns-clause-empty
returns-clause-empty c = most_empty

pub returns-clause-step : goal.returns-clause-step
returns-clause-step c =
    λ n F P order S z o k d small low h. most_recur n F P order (ground n P order o k) S z
    (record { once = d; within = λ y m. (o.all y).1 (small y m); lawful = low }) h
