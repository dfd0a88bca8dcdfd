-- What the workers of a layer read.
--     ContextOf, context_with instance layer      the problem instance and the layer
--     IsContext c      the layer is one of the instance's variables, after that of the empty set
--     IsImageFor t v mask image      the image of a set whose cell takes widths; none if it takes none
--     HoldsContext c needs images v      what each set needs, and its image
use Rattle.std.specs.Prelude.{◌≡◌, ◌≢◌, ℕ, ◌<◌, List, Option, Some, None}
use Rattle.symmetries.specs.declared.orbits.Image.{Image}
use Rattle.subset_layers.specs.Layers.{LayerOf, masks_of}
use Rattle.compaction.specs.Preparations.{IsImageOf, PreparedOf}
use Rattle.layer_core.specs.Instances.{InstanceOf}
use Rattle.layer_core.specs.Needs.{AreNeedsOf, AreOfSets, needed}
use Rattle.layer_core.specs.declared.needs.SetNeeds.{SetNeeds}

-- the problem instance and the layer
pub record ContextOf : Type 0 where
  pub instance : InstanceOf
  pub layer : LayerOf

abbrev pub context_with : InstanceOf → LayerOf → ContextOf
context_with instance layer = record { instance = instance; layer = layer }

-- the layer is one of the instance's variables, and its sets are not empty
pub record IsContext (c : ContextOf) : Type 0 where
  pub inputs : c.layer.inputs ≡ c.instance.problem.inputs
  pub some : 0 < c.layer.size

-- a set whose cell takes widths has an image, and no other set has one
abbrev pub IsImageFor : InstanceOf → PreparedOf → ℕ → Option Image → Type 0
IsImageFor t v mask None = needed t mask ≡ 0
IsImageFor t v mask (Some image) = (needed t mask ≢ 0) × IsImageOf v mask image

-- what the cell of each set needs, and the set's image
pub record HoldsContext (c : ContextOf) (needs : List SetNeeds) (images : List (Option Image)) (v : PreparedOf) : Type 0 where
  pub context : IsContext c
  pub problem : v.problem ≡ c.instance.problem
  pub needs_are : AreOfSets (AreNeedsOf c.instance) (masks_of c.layer) needs
  pub images_are : AreOfSets (IsImageFor c.instance v) (masks_of c.layer) images
