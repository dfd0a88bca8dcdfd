use Rattle.std.proofs.Common.{ℕ, ◌<◌}
use Rattle.definitions.specs.KeptPairs.{HasBit}
use Rattle.order_model.proofs.pairs.are_within.Given as goal

abbrev pub invariant-loop-a : goal.invariant-loop-a
invariant-loop-a l = (a b : ℕ) → a < l.a → HasBit l.below a b → (a < l.n) × (b < l.n)
