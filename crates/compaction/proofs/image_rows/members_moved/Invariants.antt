use Rattle.std.proofs.Common.{◌≡◌, ◌-◌, ◌<◌, ◌≤◌, ℕ, slice_index, cond, eqb}
use Rattle.std.specs.Int.{bit_at}
use Rattle.compaction.proofs.RowSteps.{IsRowBelow}
use Rattle.compaction.proofs.image_rows.members_moved.Given as goal

abbrev pub invariant-loop-x : goal.invariant-loop-x
invariant-loop-x l = record {
  small : l.from ≤ 16;
  asked : (y : ℕ) → y < l.from → bit_at l.needed y ≡ 1 → bit_at l.asked (slice_index l.variables y) ≡ 1;
  row : IsRowBelow (λ x. cond (eqb (bit_at l.needed x) 1) (slice_index l.row (slice_index l.variables x)) 0) l.found l.from;
}

abbrev pub decreases-loop-x : goal.decreases-loop-x
decreases-loop-x l = 16 - l.from
