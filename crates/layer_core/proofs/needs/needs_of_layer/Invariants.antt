use Rattle.subset_layers.specs.Layers.{masks_of}
use Rattle.layer_core.specs.Needs.{AreNeedsOf}
use Rattle.layer_core.proofs.NeedLists.{AreOfFirst}
use Rattle.layer_core.proofs.needs.needs_of_layer.Given as goal

abbrev pub invariant-loop-place : goal.invariant-loop-place
invariant-loop-place l = AreOfFirst (AreNeedsOf l.instance) (masks_of l.layer) l.place l.needs.items
