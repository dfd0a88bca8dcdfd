use Rattle.std.proofs.Common.{◌∙◌, ap, subst}
use Rattle.definitions.specs.Problems.{TruthTables, functions}
use Rattle.order_counts.specs.Figures.{AreFiguresOfOrders}
use Rattle.order_counts.specs.Sizes.{orders_below}
use Rattle.report_texts.specs.OrderTexts.{orders_lines}
use Rattle.report_texts.proofs.OrderAnswers.{orders_answered}
use Rattle.report.proofs.all_orders.orders_answer.Goals as goal

pub returns : goal.returns
returns g c =
    let cover = c.args.cover.now in
    let t = c.in_ok-tables.tables in
    let P = c.args.pairs.now.pairs in
    let report = c.in_ok-report.report in
    let f = report.figures in
    let size = c.in_ok-sifted_size.sifted_size in
    let order = c.in_ok-sifted_size.ensures.0 in
    let sifted = c.in_ok-sifted_size.ensures.1 in
    orders_answered cover t P (record { inputs = c.in_ok-tables.ensures.inputs; tables = c.in_ok-tables.ensures.tables }) f size report.better
    sifted.start order _ sifted.first
    (subst (λ (p : TruthTables). AreFiguresOfOrders p.inputs (functions p) P f) c.problem.ensures c.in_ok-report.ensures.figures)
    sifted.is_order sifted.is_size
    (c.in_ok-report.ensures.better ∙ ap (λ (p : TruthTables). orders_below p.inputs (functions p) P size) c.problem.ensures)
    (c.in_ok-text.ensures
    ∙ ap (λ k. orders_lines f.count f.fewest.nodes f.fewest.orders f.most.nodes f.most.orders f.total k report.better) c.in_ok-report.ensures.size)
