use Rattle.std.proofs.Common.{◌∙◌, sym}
use Rattle.definitions.specs.Problems.{functions}
use Rattle.definitions.proofs.Widths.SizeBounds.{order_length}
use Rattle.dd_builder.specs.Building.{IsDiagramOf}
use Rattle.pla_reader.specs.Covers.{functions_of}
use Rattle.dd_builder.proofs.SessionSteps.{ok_same}
use Rattle.dd_builder.proofs.Covers.{tables_diagram}
use Rattle.report.proofs.diagrams.diagram_under.Goals as goal

pub reduced_diagram-requires : goal.reduced_diagram-requires
reduced_diagram-requires g c =
    order_length c.args.input.now.cover.now.inputs c.args.order.now c.requires.order ∙ sym c.args.input.now.are_its_tables.inputs

pub build-requires-clause-order : goal.build-requires-clause-order
build-requires-clause-order g c κs within = order_length c.args.input.now.cover.now.inputs c.args.order.now c.requires.order

pub returns-then-is_small : goal.returns-then-is_small
returns-then-is_small g c =
    let cover = c.args.input.now.cover.now in
    let t = c.args.input.now.tables.now in
    ok_same (IsDiagramOf t.inputs (functions t) c.args.order.now) (IsDiagramOf cover.inputs (functions_of cover) c.args.order.now)
    c.reduced_diagram.result c.reduced_diagram.ensures.diagram (λ d h.
    tables_diagram c.some_diagram_has_the_level_counts.ensures.reduced c.truth_tables_keep_functions.ensures.same cover t c.args.order.now d
    c.args.input.now.are_its_tables c.requires.order h)
