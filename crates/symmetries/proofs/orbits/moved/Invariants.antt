use Rattle.std.proofs.Common.{◌≡◌, ◌<◌, ℕ, length, slice_index}
use Rattle.symmetries.proofs.orbits.moved.Given as goal

abbrev pub invariant-loop-x : goal.invariant-loop-x
invariant-loop-x l = record {
  long : length l.moved ≡ 16;
  done : (y : ℕ) → y < l.x → slice_index l.moved y ≡ slice_index l.partners (slice_index l.variables y);
}
