use Rattle.std.proofs.Common.{length, sym, subst, ap, ◌∙◌}
use Rattle.definitions.specs.Diagrams.{Represents}
use Rattle.definitions.specs.Pairs.{IsFirstOrder}
use Rattle.dd_builder.specs.Building.{HasLevelCounts}
use Rattle.pla_reader.specs.Covers.{functions_of}
use Rattle.definitions.proofs.Widths.SizeBounds.{order_length}
use Rattle.report.proofs.diagrams.starting_diagram.Goals as goal

pub diagram_under-requires-clause-order : goal.diagram_under-requires-clause-order
diagram_under-requires-clause-order g c κs within = rw c.args.input.now.are_its_pairs at c.in_ok-order.ensures.is_order

pub returns : goal.returns
returns g c =
    let cover = c.args.input.now.cover.now in
    let long = order_length cover.inputs c.in_ok-order.order (rw c.args.input.now.are_its_pairs at c.in_ok-order.ensures.is_order) in
    let same = c.in_ok-diagram.ensures.order in
    record {
      starts = subst (IsFirstOrder cover.inputs c.args.input.now.pairs.now.pairs) (sym same) (rw c.args.input.now.are_its_pairs at c.in_ok-order.ensures);
      long = ap length same ∙ long;
      diagram = subst (λ o. Represents cover.inputs (functions_of cover) o c.in_ok-diagram.diagram.graph) (sym same)
          c.in_ok-diagram.ensures.diagram;
      reduced = c.in_ok-diagram.ensures.reduced;
      levels = subst (λ o. HasLevelCounts cover.inputs (functions_of cover) o c.in_ok-diagram.diagram.graph)
          (sym same) c.in_ok-diagram.ensures.levels;
    }
