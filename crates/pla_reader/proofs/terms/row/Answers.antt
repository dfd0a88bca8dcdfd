use Rattle.std.proofs.Common.{rules, arith, add-one}
use Rattle.pla_reader.proofs.RowLemmas.{is_at_start, skip_one, input_step, output_step, input_fails, output_fails, long_fails, short_fails, has_no_fault, is_the_term, fits_term}
use Rattle.pla_reader.proofs.terms.row.Goals as goal
use Rattle.pla_reader.proofs.terms.row.Goals.{then-at-n+in_ok-masks, else-at-n+then-at-n-2+in_ok-masks-2}

pub loop-b-init : goal.loop-b-init
loop-b-init c = is_at_start c.args.takes_dont_cares c.args.n c.args.m c.args.line.now

pub loop-b-preserved-then-is_separator : goal.loop-b-preserved-then-is_separator
loop-b-preserved-then-is_separator c =
    rw (add-one c.loop-b.b-index)
    (skip_one _ _ _ c.args.line.now c.loop-b.b-index c.loop-b.at c.loop-b.masks c.loop-b.invariant (omega arith) (search rules))

pub returns-in_err-masks : goal.returns-in_err-masks
returns-in_err-masks c = grind (arith, input_fails)

pub returns-in_err-masks-2 : goal.returns-in_err-masks-2
returns-in_err-masks-2 c =
    let fails =
    output_fails _ _ _ c.args.line.now c.loop-b.b-index c.loop-b.at c.loop-b.masks _ c.loop-b.invariant (omega arith) (search rules)
    (omega arith) (omega arith) c.in_err-masks-2.ensures.err in
    search (rules, fails)

pub returns-else-at-n-2 : goal.returns-else-at-n-2
returns-else-at-n-2 c =
    long_fails _ _ _ c.args.line.now c.loop-b.b-index c.loop-b.at c.loop-b.masks c.loop-b.invariant (omega arith) (search rules)
    (omega arith)

pub loop-b-preserved : goal.loop-b-preserved
loop-b-preserved c = rw (add-one c.loop-b.b-index) (elim c.if-at-n.branch [
  | then-at-n+in_ok-masks w ↦ rw w.masks-is
      (input_step _ _ _ c.args.line.now c.loop-b.b-index c.loop-b.at c.loop-b.masks _ c.loop-b.invariant (omega arith) (search rules)
      (omega arith) w.in_ok-masks.ensures.ok w.in_ok-masks.ensures.masks)
  | else-at-n+then-at-n-2+in_ok-masks-2 w ↦ rw w.masks-is
      (output_step _ _ _ c.args.line.now c.loop-b.b-index c.loop-b.at c.loop-b.masks _ c.loop-b.invariant (omega arith) (search rules)
      (omega arith) (omega arith) w.in_ok-masks-2.ensures.ok w.in_ok-masks-2.ensures.masks)
])

pub returns-then-at-n-3 : goal.returns-then-at-n-3
returns-then-at-n-3 c = short_fails _ _ _ c.args.line.now c.loop-b.b-index c.loop-b.at c.loop-b.masks c.loop-b.invariant (omega arith) (omega arith)

pub invariant_of-result : goal.invariant_of-result
invariant_of-result c = record { within = c.loop-b.invariant.held.within }

pub returns : goal.returns
returns c = search (has_no_fault, is_the_term, fits_term)
