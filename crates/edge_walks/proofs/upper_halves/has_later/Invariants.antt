use Rattle.std.proofs.Common.{◌≡◌, ℕ, ◌+◌, ◌<◌, ◌^◌, slice_index}
use Rattle.edge_walks.proofs.upper_halves.has_later.Given as goal

abbrev pub invariant-loop-z : goal.invariant-loop-z
invariant-loop-z l = (T : ℕ) → l.set < T → T < l.set + 2 ^ l.z → slice_index l.judged T ≡ 0
