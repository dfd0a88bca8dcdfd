use Rattle.std.proofs.Common.{◌≤◌, length, arith}
use Rattle.std.proofs.lemmas.List.{length-map}
use Rattle.definitions.specs.Functions.{from_table}
use Rattle.definitions.specs.Problems.{functions}
use Rattle.definitions.proofs.Precedence.Cycles.{acyclic_kept}
use Rattle.report_texts.proofs.OrderAnswers.{some_orders}
use Rattle.report.proofs.all_orders.orders_report.Goals as goal

pub returns-clause-some : goal.returns-clause-some
returns-clause-some g c =
    let n = c.args.pairs.now.inputs in
    let P = c.args.pairs.now.pairs in
    let kept = c.inputs.ensures.kept in
    let base = acyclic_kept n P kept.below kept.acyclic in
    let few = c.outputs.ensures.few in
    let outputs : length (functions c.args.problem.now) ≤ 16 =
    omega (arith, few, c.outputs.ensures.value, length-map c.args.problem.now.tables from_table) in
    let some = some_orders n (functions c.args.problem.now) P base.0 base.2.is_order base.2.kept kept.few outputs in
    let count = c.in_ok-figures_of_orders.ensures.count in
    omega (arith, some, count)
