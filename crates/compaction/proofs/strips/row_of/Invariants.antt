use Rattle.std.proofs.Common.{eqb, cond, length}
use Rattle.std.specs.Int.{bit_at}
use Rattle.std.specs.List.{filter}
use Rattle.compaction.proofs.RowSteps.{IsRowBelow}
use Rattle.compaction.proofs.strips.row_of.Given as goal

abbrev pub invariant-loop-x : goal.invariant-loop-x
invariant-loop-x l = IsRowBelow (λ x. cond (eqb (bit_at l.wanted x) 1) (length (filter (λ m. eqb (bit_at m x) 1) l.masks)) 0) l.row l.x
