use Rattle.std.proofs.Common.{ℕ, ◌<◌}
use Rattle.definitions.specs.KeptPairs.{pairs_in, HasBit}
use Rattle.definitions.proofs.Precedence.Closure.{Reaches}
use Rattle.order_model.proofs.pairs.least_on_cycle.Given as goal

abbrev pub invariant-loop-k : goal.invariant-loop-k
invariant-loop-k l = Reaches (pairs_in 16 l.below) l.k l.reached

abbrev pub invariant-loop-v : goal.invariant-loop-v
invariant-loop-v l = (u : ℕ) → u < l.v → HasBit l.reached u u → ⊥
