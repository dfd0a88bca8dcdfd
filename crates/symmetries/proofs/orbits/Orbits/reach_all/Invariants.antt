use Rattle.std.proofs.Common.{◌≡◌}
use Rattle.symmetries.proofs.orbits.Orbits.reach_all.Given as goal

abbrev pub invariant-loop-number : goal.invariant-loop-number
invariant-loop-number l = l.self ≡ l.fn.self

abbrev pub invariant-loop-size : goal.invariant-loop-size
invariant-loop-size l = l.self ≡ l.fn.self
