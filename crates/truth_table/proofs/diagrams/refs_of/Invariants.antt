use Rattle.std.proofs.Common.{◌≡◌, map, take}
use Rattle.truth_table.specs.Levels.{ref_named}
use Rattle.truth_table.proofs.diagrams.refs_of.Given as goal

abbrev pub invariant-loop-number : goal.invariant-loop-number
invariant-loop-number l = l.refs.items ≡ map ref_named (take l.number-index l.numbers)
