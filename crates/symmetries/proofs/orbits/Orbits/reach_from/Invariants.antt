use Rattle.std.proofs.Common.{◌≡◌}
use Rattle.symmetries.proofs.orbits.Orbits.reach_from.Given as goal

abbrev pub invariant-loop-place : goal.invariant-loop-place
invariant-loop-place l = l.self ≡ l.fn.self
