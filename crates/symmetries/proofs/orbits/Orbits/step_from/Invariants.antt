use Rattle.std.proofs.Common.{◌≡◌}
use Rattle.symmetries.proofs.orbits.Orbits.step_from.Given as goal

abbrev pub invariant-loop-number : goal.invariant-loop-number
invariant-loop-number l = l.self ≡ l.fn.self
