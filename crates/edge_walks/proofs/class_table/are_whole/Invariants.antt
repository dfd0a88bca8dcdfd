use Rattle.std.proofs.Common.{◌≡◌, ℕ, ◌<◌, slice_index}
use Rattle.edge_walks.proofs.class_table.are_whole.Given as goal

abbrev pub invariant-loop-mask : goal.invariant-loop-mask
invariant-loop-mask l = (i : ℕ) → i < l.mask-index → slice_index l.masks i ≡ l.set
