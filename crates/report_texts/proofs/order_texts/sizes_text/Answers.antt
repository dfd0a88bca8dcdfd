use Rattle.std.proofs.Common.{◌<◌, ◌∙◌, length, refl, arith}
use Rattle.std.proofs.lemmas.Grind.{get_or_default_zero}
use Rattle.report_texts.proofs.OrderLines.{line_pushed}
use Rattle.report_texts.proofs.order_texts.sizes_text.Goals as goal

pub loop-i-preserved : goal.loop-i-preserved
loop-i-preserved c =
    let end = c.len-i-end.ensures in
    let inside : c.loop-i.i < length c.args.counts.now.orders.items = omega (arith, c.loop-i-test.true, end) in
    line_pushed c.args.counts.now c.loop-i.i _ _ _ _
    (c.index.ensures ∙ get_or_default_zero c.args.counts.now.orders.items c.loop-i.i c.index.result.now inside) refl c.loop-i.invariant
    c.in_ok-push_size.ensures
