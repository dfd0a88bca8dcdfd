use Rattle.std.proofs.Common.{◌≡◌, ◌<◌, ℕ, length, slice_index}
use Rattle.symmetries.proofs.orbits.Image.through.Given as goal

abbrev pub invariant-loop-x : goal.invariant-loop-x
invariant-loop-x l = record {
  long : length l.variables ≡ 16;
  done : (y : ℕ) → y < l.x → slice_index l.variables y ≡ slice_index l.self.variables (slice_index l.exchange.partners y);
}
