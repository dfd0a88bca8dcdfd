use Rattle.std.proofs.Common.{◌≡◌, ◌*◌, length}
use Rattle.std.specs.List.{filter, range_with_len}
use Rattle.small_search.specs.Counting.{is_dependent_in}
use Rattle.small_search.proofs.width_counts.count_dependent.Given as goal

abbrev pub invariant-loop-i : goal.invariant-loop-i
invariant-loop-i l = l.count ≡ length (filter (is_dependent_in l.occurring l.place) (range_with_len 0 (64 * l.i)))
