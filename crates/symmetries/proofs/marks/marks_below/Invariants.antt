use Rattle.std.proofs.Common.{◌≡◌, length}
use Rattle.symmetries.proofs.marks.marks_below.Given as goal

abbrev pub invariant-loop-y : goal.invariant-loop-y
invariant-loop-y l = length l.sums ≡ length l.initial.sums
