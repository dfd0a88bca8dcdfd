use Rattle.std.proofs.Common.{◌≡◌, ◌^◌, length}
use Rattle.symmetries.proofs.marks.Marks.of.Given as goal

abbrev pub invariant-loop-x : goal.invariant-loop-x
invariant-loop-x l = (length l.hashes.items ≡ 2 ^ l.inputs) × (length l.upper.items ≡ 2 ^ l.inputs)
