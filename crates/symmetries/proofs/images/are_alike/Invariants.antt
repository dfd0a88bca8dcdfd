use Rattle.std.proofs.Common.{◌≡◌, ◌<◌, ℕ, slice_index}
use Rattle.symmetries.proofs.images.are_alike.Given as goal

abbrev pub invariant-loop-point : goal.invariant-loop-point
invariant-loop-point l = (p : ℕ) → p < l.point → slice_index l.values (slice_index l.images p) ≡ slice_index l.values p
