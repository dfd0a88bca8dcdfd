use Rattle.std.proofs.Common.{ℕ, arith}
use Rattle.std.proofs.lemmas.List.{length-take}
use Rattle.compaction.proofs.low_choice.lowest_of.Goals as goal

pub slice_bounds-iter-end : goal.slice_bounds-iter-end
slice_bounds-iter-end c = omega (arith, c.if-fewest-first.array_long, length-take {A = ℕ})
