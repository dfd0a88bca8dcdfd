use Rattle.std.proofs.Common.{◌≡◌, ap, sym, subst, ◌∙◌}
use Rattle.std.proofs.lemmas.Bool.Decides.{Decides-eqb}
use Rattle.std.proofs.lemmas.Slice.Eq.{slice_eq-Decides}
use Rattle.definitions.specs.Levels.{level_counts}
use Rattle.definitions.specs.Orders.{variables}
use Rattle.pla_reader.specs.Covers.{functions_of}
use Rattle.report.proofs.LevelCounts.{counts_read}
use Rattle.definitions.specs.Orders.{IsOrder}
use Rattle.definitions.proofs.Lists.Accepted.{order_variables}
use Rattle.report.proofs.diagrams.file_order_levels_of.Goals as goal

pub diagram_under-requires-clause-order : goal.diagram_under-requires-clause-order
diagram_under-requires-clause-order g c κs within =
    subst (IsOrder c.args.input.now.cover.now.inputs) (sym (c.in_ok-order.ensures ∙ ap (λ k. variables k) c.inputs.ensures.value))
    (order_variables c.args.input.now.cover.now.inputs)

pub returns-then-eq-clause-counts : goal.returns-then-eq-clause-counts
returns-then-eq-clause-counts g c =
    let cover = c.args.input.now.cover.now in
    let same : c.variables.result.now ≡ c.variables-2.result.now =
    (slice_eq-Decides Decides-eqb c.variables.result.now c.variables-2.result.now c.eq.result c.eq.ensures).0 c.if-eq.true in
    let order = sym (c.variables.ensures.value ∙ c.order.ensures.value) ∙ same ∙ c.variables-2.ensures.value in
    let read = counts_read cover.inputs (functions_of cover) c.args.starting.now.order c.in_ok-levels.levels.items c.args.starting.now.graph
    c.in_ok-levels.ensures.long c.in_ok-levels.ensures.counts c.requires.starting in
    read ∙ ap (level_counts cover.inputs (functions_of cover))
    (order ∙ c.in_ok-order.ensures ∙ ap (λ k. variables k) c.inputs.ensures.value)

pub returns-clause-counts : goal.returns-clause-counts
returns-clause-counts g c =
    let cover = c.args.input.now.cover.now in
    let read = counts_read cover.inputs (functions_of cover) c.in_ok-order.order c.in_ok-levels-2.levels.items
    c.in_ok-diagram.diagram.graph
    (rw (← c.in_ok-diagram.ensures.order) c.in_ok-levels-2.ensures.long)
    (rw (← c.in_ok-diagram.ensures.order) c.in_ok-levels-2.ensures.counts)
    c.in_ok-diagram.ensures.levels in
    read ∙ ap (level_counts cover.inputs (functions_of cover)) (c.in_ok-order.ensures ∙ ap (λ k. variables k) c.inputs.ensures.value)
