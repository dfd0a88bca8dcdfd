use Rattle.std.proofs.Common.{◌≡◌, ℕ, ◌+◌, List, [], ◌∷◌, length, length-append, slice_get, sym, ap, ◌∙◌, subst, arith}
use Rattle.subset_layers.specs.Costs.{CostsOf}
use Rattle.subset_layers.specs.Layers.{LayerOf, masks_of}
use Rattle.layer_core.specs.LayerCosts.{IsLayerFor}
use Rattle.order_solve.proofs.LayerLists.{images_kept, layers_done, layers_push}
use Rattle.order_solve.proofs.layers.all_cells.Goals as goal

pub after-requires-clause-done : goal.after-requires-clause-done
after-requires-clause-done g c =
    layers_done c.args.instance.now c.deref.result.now c.loop-size.layers.items c.loop-size._size c.inputs-size-end.result
    c.deref.ensures.value c.loop-size.invariant.many c.loop-size-test.true c.inputs-size-end.ensures.value
    c.loop-size.invariant.layers_are

pub find_rows-requires-clause-done : goal.find_rows-requires-clause-done
find_rows-requires-clause-done g c =
    layers_done c.args.instance.now c.deref-in-loop-size.result.now c.loop-size.layers.items c.loop-size._size c.inputs-size-end.result
    c.deref-in-loop-size.ensures.value c.loop-size.invariant.many c.loop-size-test.true c.inputs-size-end.ensures.value
    c.loop-size.invariant.layers_are

pub next_layer-requires-clause-prepared : goal.next_layer-requires-clause-prepared
next_layer-requires-clause-prepared g c = c.find_rows.ensures.problem ∙ c.loop-size.invariant.problem

pub next_layer-requires-clause-context : goal.next_layer-requires-clause-context
next_layer-requires-clause-context g c = record {
  inputs = ap (λ (l : LayerOf). l.inputs) c.in_ok-needs.ensures.layer;
  some = (let s = ap (λ (l : LayerOf). l.size) c.in_ok-needs.ensures.layer ∙ ap length c.deref.ensures.value in
      let many = c.loop-size.invariant.many in omega (arith, s, many));
}

pub next_layer-requires-clause-images : goal.next_layer-requires-clause-images
next_layer-requires-clause-images g c =
    images_kept c.args.instance.now (masks_of c.in_ok-needs.needs.layer) c.in_ok-needs.needs.images.items c.loop-size.prepared c.find_rows.new.prepared
    c.find_rows.ensures.problem c.find_rows.ensures.renamed c.in_ok-needs.ensures.images

pub loop-size-preserved : goal.loop-size-preserved
loop-size-preserved g c =
    let t = c.args.instance.now in
    let items = c.loop-size.layers.items in
    let costs = c.in_ok-next.next in
    let is = c.in_ok-push.ensures.items in
    let w = c.loop-size.invariant in
    let size : c.in_ok-needs.needs.layer.size ≡ length items =
    ap (λ (l : LayerOf). l.size) c.in_ok-needs.ensures.layer ∙ ap length c.deref.ensures.value in
    record {
      problem = c.find_rows.ensures.problem ∙ w.problem;
      many = ap length is ∙ length-append items (costs ∷ []) ∙ ap (λ n. n + 1) w.many;
      layers_are =
          λ k d at. layers_push t items costs w.layers_are
          (subst (λ (n : ℕ). IsLayerFor t n costs) size c.in_ok-next.ensures) k d
          (ap (λ (xs : List CostsOf). slice_get xs k) (sym is) ∙ at);
    }
