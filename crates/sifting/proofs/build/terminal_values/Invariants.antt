use Rattle.std.proofs.Common.{◌≡◌, map, take}
use Rattle.sifting.specs.Cuts.{is_true}
use Rattle.sifting.proofs.build.terminal_values.Given as goal

abbrev pub invariant-loop-r : goal.invariant-loop-r
invariant-loop-r l = l.values.items ≡ map is_true (take l.r-index l.cut)
