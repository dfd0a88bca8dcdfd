use Rattle.std.proofs.Common.{◌≡◌, ◌+◌, take, count_ones}
use Rattle.std.specs.List.{sum_by}
use Rattle.compaction.proofs.tally.Tally.add_wanted.Given as goal

abbrev pub invariant-loop-wanted : goal.invariant-loop-wanted
invariant-loop-wanted l = l.self-inside.count ≡ l.fn.self + sum_by count_ones (take l.wanted-index l.needed)
