use Rattle.std.proofs.Common.{◌≡◌, ℕ, ◌<◌, ◌≤◌, ◌++◌, List, [], ◌∷◌, map, length, slice_index, sym, ap, ap₂, ◌∙◌, arith}
use Rattle.std.proofs.lemmas.List.{map_more, map-append}
use Rattle.subset_layers.specs.Layers.{masks_of}
use Rattle.layer_core.specs.Instances.{cell_for}
use Rattle.layer_core.specs.Pairing.{pair_of}
use Rattle.layer_core.proofs.WantedMembers.{few_each}
use Rattle.layer_work.specs.LayerContexts.{ContextOf}
use Rattle.layer_work.proofs.alone.cells_alone.Goals as goal

pub cell_at-requires-clause-there : goal.cell_at-requires-clause-there
cell_at-requires-clause-there c =
    let e = c.len-place-end.ensures ∙ ap (λ (z : ContextOf). length (masks_of z.layer)) c.context.view_is in
    let t = c.loop-place-test.true in
    omega (arith, e, t)

pub cell_at-requires-clause-room : goal.cell_at-requires-clause-room
cell_at-requires-clause-room c =
    let t = c.args.context.now.instance in
    let v = c.inputs.ensures.value ∙ ap (λ (z : ContextOf). z.instance.problem.inputs) c.context.view_is in
    let f = c.inputs.ensures.few in
    let few = few_each t (slice_index (masks_of c.args.context.now.layer) c.loop-place.place) (omega (arith, v, f)) in
    let none = c.new-tally.ensures in
    omega (arith, few, none)

pub loop-place-preserved : goal.loop-place-preserved
loop-place-preserved c =
    let t = c.args.context.now.instance in
    let masks = masks_of c.args.context.now.layer in
    let i = c.loop-place.place in
    let e = c.len-place-end.ensures ∙ ap (λ (z : ContextOf). length (masks_of z.layer)) c.context.view_is in
    let test = c.loop-place-test.true in
    let there : i < length masks = omega (arith, e, test) in
    ap (map pair_of) c.in_ok-push.ensures.items
    ∙ map-append pair_of c.loop-place.cells.items (c.in_ok-cell_at.field-0 ∷ [])
    ∙ ap₂ (λ (xs : List (ℕ × ℕ)) (y : ℕ × ℕ). xs ++ y ∷ []) c.loop-place.invariant c.in_ok-cell_at.ensures.cell
    ∙ sym (map_more (cell_for t) masks i 0 there)
