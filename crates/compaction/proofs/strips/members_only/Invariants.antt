use Rattle.std.proofs.Common.{slice_index, cond, eqb}
use Rattle.std.specs.Int.{bit_at}
use Rattle.compaction.proofs.RowSteps.{IsRowBelow}
use Rattle.compaction.proofs.strips.members_only.Given as goal

abbrev pub invariant-loop-x : goal.invariant-loop-x
invariant-loop-x l = IsRowBelow (λ x. cond (eqb (bit_at l.members x) 1) (slice_index l.row x) 0) l.found l.x
