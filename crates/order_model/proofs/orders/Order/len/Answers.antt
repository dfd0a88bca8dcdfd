use Rattle.std.proofs.Common.{rules}
use Rattle.order_model.proofs.orders.Order.len.Goals as goal

pub returns-clause-value : goal.returns-clause-value
returns-clause-value c = search rules
