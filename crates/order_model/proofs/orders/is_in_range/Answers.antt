use Rattle.std.proofs.Common.{rules}
use Rattle.order_model.proofs.orders.is_in_range.Goals as goal

pub returns-then-n-le16 : goal.returns-then-n-le16
returns-then-n-le16 c = search rules
