use Rattle.std.proofs.Common.{◌≡◌, ℕ, ◌+◌, List, [], ◌∷◌, ◌++◌, true, sym, ◌∙◌, subst}
use Rattle.std.proofs.lemmas.Option.{get_or_from_slice_get}
use Rattle.definitions.specs.Orders.{has}
use Rattle.subset_layers.specs.Layers.{LayerOf, masks_of}
use Rattle.subset_layers.proofs.BlockLists.{has_slice_get}
use Rattle.layer_core.specs.Needs.{AreNeedsOf}
use Rattle.layer_core.specs.declared.needs.SetNeeds.{SetNeeds}
use Rattle.layer_core.proofs.NeedLists.{AreOfFirst, sets_none, sets_pushed}
use Rattle.layer_core.proofs.needs.needs_of_layer.Goals as goal

pub needs_of_set-requires-clause-next : goal.needs_of_set-requires-clause-next
needs_of_set-requires-clause-next c =
    subst (λ (l : LayerOf). has (masks_of l) c.mask_at.result ≡ true) c.requires.next
    (has_slice_get (masks_of c.args.layer.now) c.loop-place.place c.mask_at.result c.mask_at.ensures)

pub loop-place-init : goal.loop-place-init
loop-place-init c =
    subst (λ (xs : List SetNeeds). AreOfFirst (AreNeedsOf c.args.instance.now) (masks_of c.args.layer.now) 0 xs) (sym c.in_ok-needs.ensures.items)
    (sets_none (AreNeedsOf c.args.instance.now) (masks_of c.args.layer.now))

pub loop-place-preserved : goal.loop-place-preserved
loop-place-preserved c =
    let t = c.args.instance.now in
    let masks = masks_of c.args.layer.now in
    let i = c.loop-place.place in
    subst (λ (xs : List SetNeeds). AreOfFirst (AreNeedsOf t) masks (i + 1) xs) (sym c.in_ok-push.ensures.items)
    (sets_pushed (AreNeedsOf t) masks i c.loop-place.needs.items c.needs_of_set.result c.loop-place.invariant
    (subst (λ (m : ℕ). AreNeedsOf t m c.needs_of_set.result) (sym (get_or_from_slice_get masks i c.mask_at.result 0 c.mask_at.ensures))
    c.needs_of_set.ensures))
