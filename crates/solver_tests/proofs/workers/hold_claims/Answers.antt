use Rattle.std.proofs.Common.{◌≡◌, IfOk, sym, subst, List}
use Rattle.subset_layers.specs.Layers.{masks_of}
use Rattle.layer_core.specs.Needs.{AreNeedsOf, AreOfSets}
use Rattle.layer_core.specs.declared.needs.SetNeeds.{SetNeeds}
use Rattle.layer_work.specs.LayerContexts.{IsImageFor}
use Rattle.solver_tests.proofs.workers.hold_claims.Goals as goal

pub new-context-requires-clause-images : goal.new-context-requires-clause-images
new-context-requires-clause-images g c =
    let t = c.args.instance.now in
    let masks = masks_of c.args.layer.now in
    let needs = subst (λ r. IfOk r (λ v. AreOfSets (AreNeedsOf t) masks v.items)) c.expect-needs.ensures c.needs_of_layer.ensures in
    let given = subst (λ (xs : List SetNeeds). AreOfSets (AreNeedsOf t) masks xs) (sym c.deref.ensures.value) needs in
    let images = subst (λ r. IfOk r (λ v. AreOfSets (IsImageFor t c.args.prepared.now) masks v.items)) c.expect-images.ensures
    (c.images_of_layer.ensures t given) in
    subst (λ xs. AreOfSets (IsImageFor t c.args.prepared.now) masks xs) (sym c.deref-3.ensures.value) images
