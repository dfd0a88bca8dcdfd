use Rattle.std.proofs.Common.{◌≡◌, take}
use Rattle.sifting.specs.Leveled.{branching}
use Rattle.sifting.proofs.levels.count_of.Given as goal

abbrev pub invariant-loop-low : goal.invariant-loop-low
invariant-loop-low l = l.count ≡ branching (take l.low-index l.nodes)
