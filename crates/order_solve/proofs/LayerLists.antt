-- The layers that are done.
--     layers_done      those before the last one
--     layers_push      one layer more
--     each_cell      a cell for each set
--     last_layer      the last one that is done
--     images_kept      the images of sets, after rows were found
use Rattle.std.proofs.Common.{◌≡◌, ℕ, ◌+◌, ◌-◌, ◌<◌, get_or, inl, inr, List, [], ◌∷◌, ◌++◌, length, length-append, slice_index, Option, Some, None, sym, ap, ◌∙◌, subst, arith}
use Rattle.std.proofs.lemmas.Bool.{cases_lt}
use Rattle.std.proofs.lemmas.List.{get_or_append_left, get_or_push, length-map}
use Rattle.std.proofs.lemmas.Option.{slice_get_within, slice_get-get_or, get_or_from_slice_get}
use Rattle.definitions.specs.Problems.{TruthTables}
use Rattle.symmetries.specs.Orbits.{TakesWidths}
use Rattle.symmetries.specs.Renamings.{RenamedOf, renamed_of}
use Rattle.symmetries.specs.declared.orbits.Image.{Image}
use Rattle.subset_layers.specs.Costs.{CostsOf}
use Rattle.subset_layers.specs.declared.costs.Cell.{Cell}
use Rattle.layer_core.specs.Pairing.{pair_of}
use Rattle.layer_core.specs.Instances.{InstanceOf, cell_for}
use Rattle.layer_core.specs.LayerCosts.{AreCells, AreDone, IsLayerFor, AreLayersFor}
use Rattle.layer_core.specs.Needs.{AreOfSets}
use Rattle.compaction.specs.Preparations.{PreparedOf}
use Rattle.layer_work.specs.LayerContexts.{IsImageFor}

pub layers_done : (t : InstanceOf) (done layers : List CostsOf) (size n : ℕ) → done ≡ layers → length layers ≡ size + 1 → size < n →
    n ≡ t.problem.inputs → AreLayersFor t layers → AreDone t done
layers_done t done layers size n e many lt same h =
    subst (λ (xs : List CostsOf). AreDone t xs) (sym e)
    (record { some = omega (arith, many); few = omega (arith, many, lt, same); layers_are = h })

pub layers_push : (t : InstanceOf) (layers : List CostsOf) (c : CostsOf) → AreLayersFor t layers → IsLayerFor t (length layers) c →
    AreLayersFor t (layers ++ c ∷ [])
layers_push t layers c h new k d e = elim (cases_lt k (length layers)) [
  | inl lt ↦ h k d
      (slice_get-get_or layers k d lt
      ∙ ap Some (sym (get_or_append_left layers (c ∷ []) d k lt) ∙ get_or_from_slice_get (layers ++ c ∷ []) k d d e))
  | inr ge ↦
      let w = slice_get_within (layers ++ c ∷ []) k d e in
      let l = length-append layers (c ∷ []) in
      let at : length layers ≡ k = omega (arith, w, l, ge) in
      let is : d ≡ c = sym (get_or_from_slice_get (layers ++ c ∷ []) k d d e) ∙ get_or_push layers c d k at in
      subst (λ (z : CostsOf). IsLayerFor t k z) (sym is) (subst (λ (i : ℕ). IsLayerFor t i c) at new)
]

pub each_cell : (t : InstanceOf) (masks : List ℕ) (cells : List Cell) → AreCells t masks cells → length cells ≡ length masks
each_cell t masks cells e = sym (length-map cells pair_of) ∙ ap length e ∙ length-map masks (cell_for t)

pub last_layer : (t : InstanceOf) (done : List CostsOf) (last : CostsOf) → AreDone t done → last ≡ get_or done (length done - 1) last →
    IsLayerFor t (length done - 1) last
last_layer t done last h e =
    h.layers_are (length done - 1) last
    (slice_get-get_or done (length done - 1) last (let some = h.some in omega (arith, some)) ∙ ap Some (sym e))

-- rows that are found change no image
pub images_kept : (t : InstanceOf) (masks : List ℕ) (images : List (Option Image)) (v w : PreparedOf) → w.problem ≡ v.problem → w.renamed ≡ v.renamed →
    AreOfSets (IsImageFor t v) masks images → AreOfSets (IsImageFor t w) masks images
images_kept t masks images v w problem renamed are = record {
  each = are.each;
  are = λ i d lt. kept (slice_index masks i) (get_or images i d) (are.are i d lt);
}
  where
    kept : (mask : ℕ) (image : Option Image) → IsImageFor t v mask image → IsImageFor t w mask image
    kept mask None none = none
    kept mask (Some image) is = (
      is.0,
      subst (λ (p : TruthTables). TakesWidths p (renamed_of p w.renamed) mask image.set image.variables) (sym problem)
          (subst (λ (r : Option RenamedOf). TakesWidths v.problem (renamed_of v.problem r) mask image.set image.variables) (sym renamed) is.1),
    )
