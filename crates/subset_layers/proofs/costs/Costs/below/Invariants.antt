use Rattle.std.proofs.Common.{◌≡◌, ℕ, ◌-◌, ◌<◌, ◌≤◌, slice_index, length, IsTrue}
use Rattle.definitions.specs.Orders.{has, members}
use Rattle.subset_layers.specs.Costs.{cost_without}
use Rattle.subset_layers.proofs.costs.Costs.below.Given as goal

abbrev pub invariant-loop-x : goal.invariant-loop-x
invariant-loop-x l = record {
  small : l.from ≤ 16;
  long : length l.below ≡ 16;
  found : (y : ℕ) → y < l.from → IsTrue (has (members l.self.inputs l.mask) y) → slice_index l.below y ≡ cost_without l.self l.mask y;
}

abbrev pub decreases-loop-x : goal.decreases-loop-x
decreases-loop-x l = 16 - l.from
