use Rattle.dd_builder.proofs.SessionSteps.{ok_same}
use Rattle.dd_builder.proofs.Covers.{tables_diagram, store_order, store_diagram}
use Rattle.dd_builder.proofs.builders.build_from.Goals as goal

pub returns-in-Err-StoreFull : goal.returns-in-Err-StoreFull
returns-in-Err-StoreFull g c = search (ok_same, tables_diagram, store_order)

pub returns : goal.returns
returns g c = record {
  diagram = store_diagram c.some_diagram_has_the_level_counts.ensures.reduced c.args.begun.0.plan c.args.cover.now c.args.order.now c.in-Ok.diagram
      c.stores_have_plans.ensures c.requires.cover c.requires.order c.in-Ok.ensures.diagram;
}
