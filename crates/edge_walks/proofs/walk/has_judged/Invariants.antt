use Rattle.std.proofs.Common.{◌≡◌, ℕ, ◌<◌, ◌≤◌, slice_index}
use Rattle.edge_walks.proofs.walk.has_judged.Given as goal

abbrev pub invariant-loop-number : goal.invariant-loop-number
invariant-loop-number l = (T : ℕ) → l.set ≤ T → T < l.number → slice_index l.judged T ≡ 0
