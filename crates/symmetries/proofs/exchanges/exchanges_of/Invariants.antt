use Rattle.std.proofs.Common.{◌≡◌, All}
use Rattle.symmetries.specs.Orbits.{IsExchangeOf}
use Rattle.symmetries.proofs.exchanges.exchanges_of.Given as goal

abbrev pub invariant-loop-between : goal.invariant-loop-between
invariant-loop-between l = (l.search.problem.now ≡ l.problem) × All (IsExchangeOf l.problem) l.found.items

abbrev pub invariant-loop-x : goal.invariant-loop-x
invariant-loop-x l = (l.search.problem.now ≡ l.problem) × All (IsExchangeOf l.problem) l.found.items
