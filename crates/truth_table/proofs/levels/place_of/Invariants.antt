use Rattle.std.proofs.Common.{◌≡◌, ◌+◌, ◌<◌, ℕ, get_or, false}
use Rattle.definitions.specs.Widths.{same_pair}
use Rattle.truth_table.specs.Levels.{children_from}
use Rattle.truth_table.proofs.levels.place_of.Given as goal

abbrev pub invariant-loop-place : goal.invariant-loop-place
invariant-loop-place l =
    (k : ℕ) → l.base + k < l.place → same_pair (l.low, l.high) (get_or (children_from l.base l.nodes) k (0, 0)) ≡ false
