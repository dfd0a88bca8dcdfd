use Rattle.std.proofs.Common.{◌≡◌, ℕ, ◌<◌}
use Rattle.std.specs.Int.{bit_at}
use Rattle.definitions.specs.KeptPairs.{HasBit}
use Rattle.order_model.proofs.pairs.Pairs.lawful.Given as goal

abbrev pub invariant-loop-a : goal.invariant-loop-a
invariant-loop-a l = (a b : ℕ) → a < l.a → bit_at l.set a ≡ 1 → HasBit l.below-items a b → bit_at l.set b ≡ 1
