use Rattle.std.proofs.Common.{◌≡◌, ◌<◌, ℕ, length, slice_index}
use Rattle.definitions.specs.Problems.{functions}
use Rattle.definitions.specs.Widths.{essential_mask}
use Rattle.definitions.specs.LowerBounds.{functions_with, functions_without}
use Rattle.order_model.proofs.lower_bounds.LowerBounds.new.Given as goal

abbrev pub invariant-loop-x : goal.invariant-loop-x
invariant-loop-x l = record {
  dependents_long : length l.dependents ≡ 16;
  others_long : length l.others ≡ 16;
  dependents : (y : ℕ) → y < l.x → slice_index l.dependents y ≡ length (functions_with l.problem.inputs (functions l.problem) y);
  others : (y : ℕ) → y < l.x → slice_index l.others y ≡ essential_mask l.problem.inputs (functions_without l.problem.inputs (functions l.problem) y);
}
