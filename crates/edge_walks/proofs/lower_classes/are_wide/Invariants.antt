use Rattle.std.proofs.Common.{ℕ, ◌<◌, ◌≤◌, ◌^◌, get_or}
use Rattle.subfunction_classes.specs.Places as places
use Rattle.edge_walks.specs.LowerClasses.{pairs_with}
use Rattle.edge_walks.proofs.lower_classes.are_wide.Given as goal

abbrev pub invariant-loop-y : goal.invariant-loop-y
invariant-loop-y l = (y : ℕ) → y < l.y → get_or l.needed y 0 ≤ pairs_with l.masks l.x y (places.pairs l.numbers (2 ^ l.x))
