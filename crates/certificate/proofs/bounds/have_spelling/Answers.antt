use Rattle.std.proofs.Common.{◌≡◌, true, sym, ◌∙◌, arith}
use Rattle.certificate.proofs.PartTests.{spelled, spelled_pairs, spelled_cells}
use Rattle.certificate.proofs.bounds.have_spelling.Goals as goal

pub returns-then-not-pairs_fit-clause-unspelled : goal.returns-then-not-pairs_fit-clause-unspelled
returns-then-not-pairs_fit-clause-unspelled c e has =
    let fits : c.pairs_fit.result ≡ true = c.pairs_fit.ensures.1 (rw c.kept_pairs.ensures (spelled_pairs c.args.parts.now has)) in
    absurd (let wrong = sym c.if-not-pairs_fit.true ∙ fits in cc wrong)

pub returns-clause-spelled : goal.returns-clause-spelled
returns-clause-spelled c e =
    spelled c.args.parts.now (c.count_fits.ensures.0 c.if-not-count_fits.false) (c.count_fits-2.ensures.0 c.if-not-count_fits-2.false)
    (rw c.deref.ensures.value at (c.order_fits.ensures.0 c.if-not-order_fits.false))
    (rw c.deref-2.ensures.value at (c.levels_fit.ensures.0 c.if-not-levels_fit.false)) (omega arith)
    (rw c.kept_pairs.ensures at (c.pairs_fit.ensures.0 c.if-not-pairs_fit.false)) (rw c.deref-3.ensures.value at (c.cells_fit.ensures.0 e))

pub returns-clause-unspelled : goal.returns-clause-unspelled
returns-clause-unspelled c e has =
    absurd
    (let wrong = sym e ∙ c.cells_fit.ensures.1 (rw c.deref-3.ensures.value (spelled_cells c.args.parts.now has)) in cc wrong)
