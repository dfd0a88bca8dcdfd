use Rattle.std.proofs.Common.{◌≡◌, ◌≤◌, length, sym, ◌∙◌, subst, arith}
use Rattle.std.proofs.lemmas.List.{length-map}
use Rattle.definitions.specs.Functions.{from_table}
use Rattle.definitions.specs.Orders.{IsOrder}
use Rattle.definitions.specs.Problems.{TruthTables, functions}
use Rattle.definitions.proofs.Precedence.Cycles.{acyclic_kept}
use Rattle.order_counts.specs.Sizes.{AreSizesOfOrders}
use Rattle.report_texts.proofs.OrderAnswers.{sizes_answered}
use Rattle.report.proofs.all_orders.sizes_answer.Goals as goal

pub returns : goal.returns
returns g c =
    let cover = c.args.cover.now in
    let t = c.in_ok-tables.tables in
    let n = c.args.pairs.now.inputs in
    let P = c.args.pairs.now.pairs in
    let counts = c.in_ok-counts.counts in
    let kept = c.inputs.ensures.kept in
    let base = acyclic_kept n P kept.below kept.acyclic in
    let same : n ≡ t.inputs = c.requires ∙ sym c.in_ok-tables.ensures.inputs in
    let few = c.outputs.ensures.few in
    let outputs : length (functions c.problem-problem.result.now) ≤ 16 =
    omega (arith, few, c.outputs.ensures.value, length-map c.problem-problem.result.now.tables from_table) in
    sizes_answered cover t P (record { inputs = c.in_ok-tables.ensures.inputs; tables = c.in_ok-tables.ensures.tables }) counts 1048576 base.0 _
    (subst (λ k. IsOrder k base.0) same base.2.is_order) base.2.kept (subst (λ k. k ≤ 16) same kept.few)
    (subst (λ (p : TruthTables). length (functions p) ≤ 16) c.problem-problem.ensures outputs) (omega arith)
    (subst (λ k. AreSizesOfOrders k (functions t) P 1048576 counts.least counts.orders.items) same
    (subst (λ (p : TruthTables). AreSizesOfOrders n (functions p) P 1048576 counts.least counts.orders.items) c.problem-problem.ensures
    c.in_ok-counts.ensures)) c.in_ok-text.ensures
