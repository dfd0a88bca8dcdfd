use Rattle.sifting.specs.Managed.{IsNoLarger}
use Rattle.sifting.proofs.sift.Sifted.repeat.Given as goal

abbrev pub invariant-loop : goal.invariant-loop
invariant-loop l = IsNoLarger l.fn.self l.sifted
