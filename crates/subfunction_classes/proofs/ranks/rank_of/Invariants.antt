use Rattle.std.proofs.Common.{◌≡◌, ◌≤◌}
use Rattle.subfunction_classes.specs.Table.{free_below}
use Rattle.subfunction_classes.proofs.ranks.rank_of.Given as goal

abbrev pub invariant-loop-y : goal.invariant-loop-y
invariant-loop-y l = record { so_far : l.rank ≡ free_below l.set l.y; small : l.rank ≤ l.y }
