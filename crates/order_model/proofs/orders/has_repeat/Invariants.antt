use Rattle.definitions.proofs.Lists.Accepted.{Seen}
use Rattle.order_model.proofs.orders.has_repeat.Given as goal

abbrev pub invariant-loop-x : goal.invariant-loop-x
invariant-loop-x l = Seen l.variables l.x-index l.seen
