use Rattle.std.proofs.Common.{◌≡◌, ℕ, ◌+◌, ◌^◌, ◌<◌, List, Option, [], ◌∷◌, ◌++◌, get_or, sym, ◌∙◌, subst, arith}
use Rattle.std.proofs.lemmas.Option.{get_or_from_slice_get, slice_get_within}
use Rattle.subset_layers.specs.Layers.{masks_of}
use Rattle.subset_layers.proofs.BlockLists.{has_masks, has_slice_get}
use Rattle.symmetries.specs.declared.orbits.Image.{Image}
use Rattle.layer_core.specs.Needs.{AreNeedsOf}
use Rattle.layer_core.specs.declared.needs.SetNeeds.{SetNeeds}
use Rattle.layer_core.proofs.NeedLists.{AreOfFirst, sets_none, sets_pushed}
use Rattle.layer_work.specs.LayerContexts.{IsImageFor}
use Rattle.layer_work.proofs.images.images_of_layer.Goals as goal

pub image_for-requires : goal.image_for-requires
image_for-requires c =
    let l = c.args.layer.now in
    subst (λ (n : ℕ). c.mask_at.result < 2 ^ n) c.requires.inputs
    (has_masks l.inputs l.size c.mask_at.result (has_slice_get (masks_of l) c.loop-place.place c.mask_at.result c.mask_at.ensures)).0

pub loop-place-init : goal.loop-place-init
loop-place-init c = λ t are.
    subst (λ (xs : List (Option Image)). AreOfFirst (IsImageFor t c.args.prepared.now) (masks_of c.args.layer.now) 0 xs) (sym c.in_ok-images.ensures.items)
    (sets_none (IsImageFor t c.args.prepared.now) (masks_of c.args.layer.now))

pub loop-place-preserved : goal.loop-place-preserved
loop-place-preserved c = λ t are.
    let v = c.args.prepared.now in
    let masks = masks_of c.args.layer.now in
    let i = c.loop-place.place in
    let mask = c.mask_at.result in
    let is = get_or_from_slice_get masks i mask 0 c.mask_at.ensures in
    let each = c.requires.each in
    let within = slice_get_within masks i mask c.mask_at.ensures in
    let d : SetNeeds = record { members = 0; below = [] } in
    let needs = subst (λ (m : ℕ). AreNeedsOf t m (get_or c.args.needs.now i d)) is (are.are i d (omega (arith, each, within))) in
    subst (λ (xs : List (Option Image)). AreOfFirst (IsImageFor t v) masks (i + 1) xs) (sym c.in_ok-push.ensures.items)
    (sets_pushed (IsImageFor t v) masks i c.loop-place.images.items c.image_for.result (c.loop-place.invariant t are)
    (subst (λ (m : ℕ). IsImageFor t v m c.image_for.result) (sym is) (c.image_for.ensures t needs)))

pub returns : goal.returns
returns c = λ t are.
    let first = c.loop-place.invariant t are in
    let each = first.each in
    let end = c.len-place-end.ensures in
    record { each = omega (arith, each, end); are = first.are }
