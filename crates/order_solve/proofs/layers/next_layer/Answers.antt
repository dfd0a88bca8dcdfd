use Rattle.std.proofs.Common.{ℕ, map, length, ap, ◌∙◌, rules, Ok}
use Rattle.subset_layers.specs.Layers.{layer_with, masks_of}
use Rattle.layer_core.specs.Instances.{cell_for}
use Rattle.layer_work.specs.LayerContexts.{ContextOf}
use Rattle.layer_core.proofs.CellPlaces.{layer_is}
use Rattle.order_solve.proofs.LayerLists.{each_cell}
use Rattle.order_solve.proofs.layers.next_layer.Goals as goal

pub returns : goal.returns
returns g c =
    let l = c.args.needs.layer in
    let cells = c.requires.cells c.new-context.result (Ok c.in_ok-cells.cells) (search rules) in
    layer_is c.args.instance.now l.size l c.in_ok-cells.cells.items c.of.result
    (ap (λ (n : ℕ). layer_with n l.size) c.requires.context.inputs) c.of.ensures.value
    (cells
    ∙ ap (λ (b : ContextOf). map (cell_for b.instance) (masks_of b.layer)) c.new-context.ensures)
    c.of.ensures.exact

pub of-requires-clause-cells : goal.of-requires-clause-cells
of-requires-clause-cells g c =
    let cells = c.requires.cells c.new-context.result (Ok c.in_ok-cells.cells) (search rules) in
    each_cell c.new-context.result.instance (masks_of c.new-context.result.layer) c.in_ok-cells.cells.items cells
    ∙ ap (λ (b : ContextOf). length (masks_of b.layer)) c.new-context.ensures
