use Rattle.std.proofs.Common.{subst}
use Rattle.definitions.specs.Orders.{IsOrder}
use Rattle.definitions.specs.Problems.{functions}
use Rattle.dd_builder.specs.Building.{IsDiagramOf}
use Rattle.pla_reader.specs.Covers.{functions_of}
use Rattle.dd_builder.proofs.SessionSteps.{ok_same}
use Rattle.dd_builder.proofs.Covers.{tables_diagram}
use Rattle.dd_builder.proofs.builders.build.Goals as goal

pub returns-then-has_many_terms : goal.returns-then-has_many_terms
returns-then-has_many_terms g c =
    let is : IsOrder c.args.cover.now.inputs c.args.order.now =
    subst (λ n. IsOrder n c.args.order.now) c.requires.order c.orders_have_each_variable_once.ensures in
    record {
      diagram = ok_same (IsDiagramOf c.args.tables.now.inputs (functions c.args.tables.now) c.args.order.now)
          (IsDiagramOf c.args.cover.now.inputs (functions_of c.args.cover.now) c.args.order.now) c.build_tables.result
          c.build_tables.ensures.diagram (λ d h.
          tables_diagram c.some_diagram_has_the_level_counts.ensures.reduced c.truth_tables_keep_functions.ensures.same c.args.cover.now
          c.args.tables.now c.args.order.now d c.requires.tables is h);
    }
