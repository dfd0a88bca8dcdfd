use Rattle.definitions.proofs.Widths.AllOrders.{orders_listed, orders_once}
use Rattle.order_counts.proofs.laws.all_orders_are_listed_once.Goals as goal

pub returns-clause-listed : goal.returns-clause-listed
returns-clause-listed c = orders_listed

pub returns-clause-once : goal.returns-clause-once
returns-clause-once c = orders_once
