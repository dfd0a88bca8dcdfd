use Rattle.std.proofs.Common.{sym, ◌∙◌, ap, [], Ok, Err, arith}
use Rattle.certificate.specs.Spelling.{spelling}
use Rattle.certificate.proofs.WholeTexts.{from_start, head_refused, body_refused, parts_spelled, text_spelled}
use Rattle.certificate.proofs.certificate.Certificate.parse.Goals as goal

pub returns-in_err-head-clause-refused : goal.returns-in_err-head-clause-refused
returns-in_err-head-clause-refused c =
    let takes =
    from_start 0 [] (Err c.in_err-head.field-0.0) c.of-lines.ensures.number c.of-lines.ensures.rest c.in_err-head.ensures.head in
    head_refused c.args.text.now 0 [] _ c.from_residual.result c.from_residual.ensures.1 (omega arith) takes

pub returns-in_err-pairs-clause-refused : goal.returns-in_err-pairs-clause-refused
returns-in_err-pairs-clause-refused c =
    let takes = from_start _ _ (Ok c.in_ok-head.head) c.of-lines.ensures.number c.of-lines.ensures.rest c.in_ok-head.ensures.head in
    body_refused c.args.text.now _ _ _ takes _ c.from_residual-in_err-pairs.result c.from_residual-in_err-pairs.ensures.1 (omega arith)
    c.in_err-pairs.ensures

pub unreachable-requires : goal.unreachable-requires
unreachable-requires c =
    let takes = from_start _ _ (Ok c.in_ok-head.head) c.of-lines.ensures.number c.of-lines.ensures.rest c.in_ok-head.ensures.head in
    c.in-None.ensures.none (parts_spelled c.args.text.now _ _ _ takes c.in_ok-pairs.pairs c.in_ok-pairs.cells c.in_ok-pairs.ensures)

pub returns-clause-spelled : goal.returns-clause-spelled
returns-clause-spelled c =
    let takes = from_start _ _ (Ok c.in_ok-head.head) c.of-lines.ensures.number c.of-lines.ensures.rest c.in_ok-head.ensures.head in
    text_spelled c.args.text.now _ _ _ takes c.in_ok-pairs.pairs c.in_ok-pairs.cells c.in_ok-pairs.ensures
    ∙ ap spelling (sym c.in-Some.ensures.some)
