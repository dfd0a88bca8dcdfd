use Rattle.std.proofs.Common.{ℕ, List, length, sym, subst, ap, ◌∙◌, arith}
use Rattle.std.proofs.lemmas.List.FromFn.{length-map-range_with_len}
use Rattle.definitions.specs.Levels.{level_count, level_counts}
use Rattle.definitions.specs.Orders.{IsOrder}
use Rattle.definitions.specs.Problems.{functions}
use Rattle.definitions.proofs.Lists.Accepted.{member_at}
use Rattle.report.proofs.LevelCounts.{one_length}
use Rattle.report.proofs.answers.report_of.Goals as goal

pub report_text-requires-clause-order : goal.report_text-requires-clause-order
report_text-requires-clause-order c = λ k d low.
    let found = c.requires.best.optimum.first.fewest in
    let long = one_length (length c.args.found.now.best.optimum.order) c.args.input.now.tables.now.inputs c.args.found.now.best.optimum.order
    c.variables.ensures.order found.is_order in
    let own = subst (λ (o : List ℕ). IsOrder (length o) o) (sym c.variables.ensures.value) c.variables.ensures.order in
    let same = ap length c.variables.ensures.value in
    let member = member_at (length c.variables.result.now) c.variables.result.now k d own low in
    let names = c.input_names.ensures.count in
    let inputs = c.args.input.now.are_its_tables.inputs in
    omega arith

pub report_text-requires-clause-levels : goal.report_text-requires-clause-levels
unfolding level_counts
report_text-requires-clause-levels c =
    let t = c.args.input.now.tables.now in
    let order = c.args.found.now.best.optimum.order in
    let found = c.requires.best.optimum in
    let long = one_length (length order) t.inputs order c.variables.ensures.order found.first.fewest.is_order in
    let levels = ap length c.deref.ensures.value ∙ ap length found.levels_are
    ∙ length-map-range_with_len (level_count t.inputs (functions t) order) 0 (length order) in
    let inputs = c.args.input.now.are_its_tables.inputs in
    omega arith

pub returns : goal.returns
returns c = grind (arith)
