-- What the cell of a set needs.
--     needed t mask      the mask of the members whose widths the cell of a set takes
--     width_count t mask, widths_for t masks      how many widths the cell of a set takes, and those of some sets
--     IsInNextLayer costs mask      a set of the layer after the one of some costs
--     AreNeedsOf t mask needs      the members whose widths the cell of a set takes, and the costs without each member
--     HasNeeded t mask row      a row has the widths that the cell of a set takes
--     AreOfSets Is masks xs      each element of a list is what `Is` says of the set in its place
use Rattle.std.specs.Prelude.{◌≡◌, ℕ, ◌+◌, ◌-◌, ◌^◌, ◌<◌, List, IsTrue, map, length, get_or, slice_index}
use Rattle.std.specs.List.{sum}
use Rattle.definitions.specs.Orders.{has, members, without, mask_of}
use Rattle.definitions.specs.Pairs.{is_lawful}
use Rattle.definitions.specs.Problems.{functions}
use Rattle.definitions.specs.Widths.{width}
use Rattle.definitions.specs.Cells.{cell_cost, wanted}
use Rattle.subset_layers.specs.Layers.{layer_with, masks_of}
use Rattle.subset_layers.specs.Costs.{CostsOf}
use Rattle.layer_core.specs.declared.needs.SetNeeds.{SetNeeds}
use Rattle.layer_core.specs.Instances.{InstanceOf}

-- the mask of the members whose widths the cell of a set takes
unfoldable pub needed : InstanceOf → ℕ → ℕ
needed t mask = mask_of (wanted t.problem.inputs (functions t.problem) t.pairs.pairs t.lower_bound t.bound mask)

-- how many widths the cell of a set takes
abbrev pub width_count : InstanceOf → ℕ → ℕ
width_count t mask = length (wanted t.problem.inputs (functions t.problem) t.pairs.pairs t.lower_bound t.bound mask)

-- how many widths the cells of some sets take
unfoldable pub widths_for : InstanceOf → List ℕ → ℕ
widths_for t masks = sum (map (width_count t) masks)

-- a set of the layer after the one of some costs
abbrev pub IsInNextLayer : CostsOf → ℕ → Type 0
IsInNextLayer costs mask = IsTrue (has (masks_of (layer_with costs.inputs (costs.size + 1))) mask)

-- the members whose widths the cell of a set takes, and if the set is lawful the costs of the sets without one member
pub record AreNeedsOf (t : InstanceOf) (mask : ℕ) (needs : SetNeeds) : Type 0 where
  pub members_are : needs.members ≡ needed t mask
  pub below_are : IsTrue (is_lawful t.pairs.pairs (members t.problem.inputs mask)) → (x : ℕ) → IsTrue (has (members t.problem.inputs mask) x) →
      slice_index needs.below x ≡ cell_cost t.problem.inputs (functions t.problem) t.pairs.pairs t.lower_bound t.bound (mask - 2 ^ x)

-- a row has the widths that the cell of a set takes
abbrev pub HasNeeded : InstanceOf → ℕ → List ℕ → Type 0
HasNeeded t mask row = (x : ℕ) →
    IsTrue (has (wanted t.problem.inputs (functions t.problem) t.pairs.pairs t.lower_bound t.bound mask) x) →
    slice_index row x ≡ width t.problem.inputs (functions t.problem) (without x (members t.problem.inputs mask)) x

-- each element of a list is what is said of the set in its place
pub record AreOfSets {A : Type 0} (Is : ℕ → A → Type 0) (masks : List ℕ) (xs : List A) : Type 0 where
  pub each : length xs ≡ length masks
  pub are : (i : ℕ) (d : A) → i < length xs → Is (slice_index masks i) (get_or xs i d)
