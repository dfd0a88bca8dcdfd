use Rattle.std.proofs.Common.{ℕ, ◌+◌, eqb, cond, List, slice_index, sym, ap, subst, arith, eq-eqb, ne_eqb}
use Rattle.std.specs.Int.{bit_at}
use Rattle.std.proofs.lemmas.Bool.{iff_false}
use Rattle.compaction.proofs.RowSteps.{IsRowBelow, row_written, row_kept}
use Rattle.compaction.proofs.strips.members_only.Goals as goal
use Rattle.compaction.proofs.strips.members_only.Goals.{then-contains, else-contains}

-- the row's entry at x
entry : ℕ → List ℕ → ℕ → ℕ
entry members row x = cond (eqb (bit_at members x) 1) (slice_index row x) 0

pub loop-x-preserved : goal.loop-x-preserved
unfolding entry
loop-x-preserved c =
    let f = entry c.args.members c.args.row in
    let x = c.loop-x.x in
    elim c.if-contains.branch [
      | then-contains w ↦
          subst (λ (r : List ℕ). IsRowBelow f r (x + 1)) (sym w.found-is)
          (row_written f c.loop-x.found x (slice_index c.args.row x) (omega arith)
          (ap (λ b. cond b (slice_index c.args.row x) 0)
          (sym (eq-eqb (bit_at c.args.members x) 1 (c.contains.ensures.0 w.if-contains.true))))
          c.loop-x.invariant)
      | else-contains w ↦
          subst (λ (r : List ℕ). IsRowBelow f r (x + 1)) (sym w.found-is)
          (row_kept f c.loop-x.found x
          (ap (λ b. cond b (slice_index c.args.row x) 0)
          (sym (ne_eqb (bit_at c.args.members x) 1 (iff_false c.contains.ensures w.if-contains.false))))
          c.loop-x.invariant)
    ]
