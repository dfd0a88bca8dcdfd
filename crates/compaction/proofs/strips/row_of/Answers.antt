use Rattle.std.proofs.Common.{ℕ, ◌+◌, eqb, cond, List, length, sym, ap, ◌∙◌, subst, arith, eq-eqb, ne_eqb}
use Rattle.std.specs.Int.{bit_at}
use Rattle.std.specs.List.{filter}
use Rattle.std.proofs.lemmas.Bool.{iff_false}
use Rattle.compaction.proofs.RowSteps.{IsRowBelow, row_written, row_kept}
use Rattle.compaction.proofs.strips.row_of.Goals as goal
use Rattle.compaction.proofs.strips.row_of.Goals.{then-contains, else-contains}

-- the row's entry at x
entry : ℕ → List ℕ → ℕ → ℕ
entry wanted masks x = cond (eqb (bit_at wanted x) 1) (length (filter (λ m. eqb (bit_at m x) 1) masks)) 0

pub loop-x-preserved : goal.loop-x-preserved
unfolding entry
loop-x-preserved c =
    let f = entry c.args.wanted c.args.masks.now in
    let x = c.loop-x.x in
    elim c.if-contains.branch [
      | then-contains w ↦
          subst (λ (r : List ℕ). IsRowBelow f r (x + 1)) (sym w.row-is)
          (row_written f c.loop-x.row x w.count_with.result (omega arith)
          (w.count_with.ensures
          ∙ ap (λ b. cond b (length (filter (λ m. eqb (bit_at m x) 1) c.args.masks.now)) 0)
          (sym (eq-eqb (bit_at c.args.wanted x) 1 (c.contains.ensures.0 w.if-contains.true))))
          c.loop-x.invariant)
      | else-contains w ↦
          subst (λ (r : List ℕ). IsRowBelow f r (x + 1)) (sym w.row-is)
          (row_kept f c.loop-x.row x
          (ap (λ b. cond b (length (filter (λ m. eqb (bit_at m x) 1) c.args.masks.now)) 0)
          (sym (ne_eqb (bit_at c.args.wanted x) 1 (iff_false c.contains.ensures w.if-contains.false))))
          c.loop-x.invariant)
    ]
