use Rattle.std.proofs.Common.{◌≡◌, ◌+◌, ◌∙◌, ap₂, sym, subst, List, length, arith}
use Rattle.subset_layers.specs.Layers.{layer_with, masks_of}
use Rattle.layer_core.specs.Needs.{AreNeedsOf, AreOfSets}
use Rattle.layer_core.specs.declared.needs.SetNeeds.{SetNeeds}
use Rattle.order_solve.proofs.LayerLists.{last_layer}
use Rattle.order_solve.proofs.layer_needs.LayerNeeds.after.Goals as goal

pub needs_of_layer-requires-clause-inputs : goal.needs_of_layer-requires-clause-inputs
needs_of_layer-requires-clause-inputs c =
    (last_layer c.args.instance.now c.args.done.now c.index-done-done.result c.requires.done c.index-done-done.is).inputs

pub needs_of_layer-requires-clause-next : goal.needs_of_layer-requires-clause-next
needs_of_layer-requires-clause-next c =
    let last = last_layer c.args.instance.now c.args.done.now c.index-done-done.result c.requires.done c.index-done-done.is in
    let some = c.requires.done.some in
    let size : length c.args.done.now ≡ c.index-done-done.result.size + 1 = let is = last.size_is in omega (arith, some, is) in
    c.in_ok-layer.ensures ∙ ap₂ layer_with (c.inputs.ensures.value ∙ sym last.inputs) size

pub needs_of_layer-requires-clause-costs : goal.needs_of_layer-requires-clause-costs
needs_of_layer-requires-clause-costs c =
    (last_layer c.args.instance.now c.args.done.now c.index-done-done.result c.requires.done c.index-done-done.is).costs_are

pub returns-clause-images : goal.returns-clause-images
returns-clause-images c =
    let t = c.args.instance.now in
    c.in_ok-images.ensures t
    (subst (λ (xs : List SetNeeds). AreOfSets (AreNeedsOf t) (masks_of c.in_ok-layer.layer) xs) (sym c.deref.ensures.value) c.in_ok-sets.ensures)
