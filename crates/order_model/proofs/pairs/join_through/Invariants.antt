use Rattle.definitions.proofs.Precedence.Closure.{JoinedTo}
use Rattle.order_model.proofs.pairs.join_through.Given as goal

abbrev pub invariant-loop-mask : goal.invariant-loop-mask
invariant-loop-mask l = JoinedTo l.initial.reached l.k l.mask-index l.reached
