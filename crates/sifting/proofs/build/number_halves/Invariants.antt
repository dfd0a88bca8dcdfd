use Rattle.sifting.specs.Cuts.{SplitsFirst}
use Rattle.sifting.proofs.build.number_halves.Given as goal

abbrev pub invariant-loop-r : goal.invariant-loop-r
invariant-loop-r l = SplitsFirst l.r-index l.nodes l.variable l.cut l.level.items l.codes.keys
