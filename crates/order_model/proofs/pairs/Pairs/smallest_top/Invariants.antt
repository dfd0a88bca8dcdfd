use Rattle.std.proofs.Common.{ℕ, ◌<◌, IsTrue}
use Rattle.definitions.specs.Orders.{has, members}
use Rattle.definitions.specs.Pairs.{tops}
use Rattle.order_model.proofs.pairs.Pairs.smallest_top.Given as goal

abbrev pub invariant-loop-x : goal.invariant-loop-x
invariant-loop-x l = (y : ℕ) → y < l.x → IsTrue (has (tops l.self.pairs (members l.self.inputs l.set)) y) → ⊥
