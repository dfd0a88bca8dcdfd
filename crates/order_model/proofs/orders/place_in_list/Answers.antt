use Rattle.std.proofs.Common.{arith}
use Rattle.definitions.proofs.Lists.Orders.{place_get}
use Rattle.definitions.proofs.Lists.Accepted.{index_of}
use Rattle.order_model.proofs.orders.place_in_list.Goals as goal

pub returns-then-y-x-clause-place : goal.returns-then-y-x-clause-place
returns-then-y-x-clause-place c = grind (arith, place_get)

pub unreachable-requires : goal.unreachable-requires
unreachable-requires c = grind (arith, index_of)
