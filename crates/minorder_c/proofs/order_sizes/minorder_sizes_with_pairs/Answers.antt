use Rattle.std.proofs.Common.{refl}
use Rattle.minorder_c.proofs.Statuses.{other}
use Rattle.minorder_c.proofs.order_sizes.minorder_sizes_with_pairs.Goals as goal

pub returns-in-Ok-sizes_of_orders-clause-short : goal.returns-in-Ok-sizes_of_orders-clause-short
returns-in-Ok-sizes_of_orders-clause-short c = other 0 7 refl
