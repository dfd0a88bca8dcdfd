use Rattle.std.proofs.Common.{◌≡◌, ◌<◌, ℕ, slice_index}
use Rattle.symmetries.proofs.images.is_exchange.Given as goal

abbrev pub invariant-loop-x : goal.invariant-loop-x
invariant-loop-x l = (y : ℕ) → y < l.x → (slice_index l.partners y < l.inputs) × (slice_index l.partners (slice_index l.partners y) ≡ y)
