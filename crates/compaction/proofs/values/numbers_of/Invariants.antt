use Rattle.std.proofs.Common.{◌≡◌, map}
use Rattle.std.specs.List.{range_with_len}
use Rattle.compaction.specs.NamedStrips.{number_in}
use Rattle.compaction.proofs.values.numbers_of.Given as goal

abbrev pub invariant-loop-place : goal.invariant-loop-place
invariant-loop-place l = l.numbers.items ≡ map (number_in l.first l.strips) (range_with_len 0 l.place)
