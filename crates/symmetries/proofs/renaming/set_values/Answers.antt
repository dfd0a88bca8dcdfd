use Rattle.std.proofs.Common.{◌+◌, ◌∙◌, ap, refl, sym, arith, subst}
use Rattle.definitions.specs.Problems.{TruthTables, value_at}
use Rattle.symmetries.proofs.RenamedValues.{AreSetTo, set_kept, set_more}
use Rattle.symmetries.proofs.renaming.set_values.Goals as goal
use Rattle.symmetries.proofs.renaming.set_values.Goals.{then-value, else-value}

pub loop-point-init : goal.loop-point-init
loop-point-init c = record {
  inputs = refl;
  outputs = refl;
  long = c.requires.table;
  values = λ i l. absurd (omega arith);
  clear = λ i l. c.requires.clear i;
  others = λ j ne. refl;
}

pub loop-point-preserved : goal.loop-point-preserved
loop-point-preserved c =
    let p = c.args.problem.now in
    let l = c.loop-point in
    let value = ap (value_at p c.args.output) (sym c.from.ensures) ∙ sym c.value.ensures in
    elim c.if-value.branch [
      | then-value w ↦
          subst (λ (q : TruthTables). AreSetTo p c.args.renamed.now q c.args.images.now c.args.output (l.point + 1)) (sym w.renamed-is)
          (set_more p c.args.renamed.now l.renamed w.set.new.self c.args.images.now c.args.output l.point l.invariant
          (omega (arith, c.requires.long, c.loop-point-test.true)) (omega (arith, l.invariant.outputs, c.requires.outputs, c.requires.output))
          (value ∙ w.if-value.true) w.set.ensures.inputs w.set.ensures.tables)
      | else-value w ↦
          subst (λ (q : TruthTables). AreSetTo p c.args.renamed.now q c.args.images.now c.args.output (l.point + 1)) (sym w.renamed-is)
          (set_kept p c.args.renamed.now l.renamed c.args.images.now c.args.output l.point l.invariant (value ∙ w.if-value.false))
    ]
