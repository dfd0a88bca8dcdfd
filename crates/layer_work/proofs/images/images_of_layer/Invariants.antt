use Rattle.subset_layers.specs.Layers.{masks_of}
use Rattle.layer_core.specs.Instances.{InstanceOf}
use Rattle.layer_core.specs.Needs.{AreNeedsOf, AreOfSets}
use Rattle.layer_core.proofs.NeedLists.{AreOfFirst}
use Rattle.layer_work.specs.LayerContexts.{IsImageFor}
use Rattle.layer_work.proofs.images.images_of_layer.Given as goal

abbrev pub invariant-loop-place : goal.invariant-loop-place
invariant-loop-place l =
    (t : InstanceOf) → AreOfSets (AreNeedsOf t) (masks_of l.layer) l.needs → AreOfFirst (IsImageFor t l.prepared) (masks_of l.layer) l.place l.images.items
