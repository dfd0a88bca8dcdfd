use Rattle.definitions.proofs.Precedence.Greedy.{GreedyTo}
use Rattle.order_model.proofs.pairs.Pairs.first_order.Given as goal

abbrev pub invariant-loop-place : goal.invariant-loop-place
invariant-loop-place l = GreedyTo l.self.inputs l.self.pairs l.variables l.place l.remaining
