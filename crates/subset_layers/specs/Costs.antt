-- The costs of the sets of a layer.
--     CostsOf, layer_of_costs c      a finished layer, with a cell for each set but the empty one; the layer itself
--     cell_at c mask, cost_at c mask      the cell and the cost of a set, if it is in the layer; the empty set has the cost 0
--     AreTrueCosts n F P r bound c      the costs are those of the definition's cells
--     IsCellFrom v P bound mask below widths cell      the definition's cell of a set, if the costs of smaller sets and the widths are the definition's
use Rattle.std.specs.Prelude.{◌≡◌, ℕ, ◌-◌, ◌^◌, ◌≤◌, Option, Some, None, List, [], if◌then◌else◌, ◌<◌, IsTrue, nat_eq, length, slice_get, slice_index, unwrap_or}
use Rattle.std.specs.Option.{option_map_or}
use Rattle.definitions.specs.Functions.{Function}
use Rattle.definitions.specs.Orders.{has, place_in}
use Rattle.definitions.specs.Pairs.{Pair}
use Rattle.definitions.specs.Problems.{functions}
use Rattle.definitions.specs.LowerBounds.{LowerBoundsOf}
use Rattle.definitions.specs.declared.limits.LowerBound.{LowerBound}
use Rattle.definitions.specs.Cells.{cell_of, cell_cost, AreForCell}
use Rattle.subset_layers.specs.declared.costs.Cell.{Cell}
use Rattle.subset_layers.specs.Layers.{LayerOf, layer_with, masks_of}

-- the number of variables, the size of the sets, and the cells in the layer's order
pub record CostsOf : Type 0 where
  pub inputs : ℕ
  pub size : ℕ
  pub cells : List Cell

-- the layer that the costs are of
abbrev pub layer_of_costs : CostsOf → LayerOf
layer_of_costs c = layer_with c.inputs c.size

-- a cell as the definition has it
abbrev pub as_pair : Cell → ℕ × ℕ
as_pair cell = (cell.cost, cell.variable)

-- the costs of the empty set's layer
abbrev pub start_costs : ℕ → CostsOf
start_costs inputs = record { inputs = inputs; size = 0; cells = [] }

-- the costs of a layer, from the cells of its sets
abbrev pub costs_with : LayerOf → List Cell → CostsOf
costs_with l cells = record { inputs = l.inputs; size = l.size; cells = cells }

-- each set has a cell, but for the empty one
pub record HaveCells (c : CostsOf) : Type 0 where
  pub few_inputs : c.inputs ≤ 16
  pub count : length c.cells ≡ (if nat_eq c.size 0 then 0 else length (masks_of (layer_of_costs c)))

-- the cell of a set
unfoldable pub cell_at : CostsOf → ℕ → Option Cell
cell_at c mask = slice_get c.cells (place_in (masks_of (layer_of_costs c)) mask)

-- the cost of a set of the layer: that of the set's cell, or 0 for the empty set
unfoldable pub cost_at : CostsOf → ℕ → Option ℕ
cost_at c mask =
    if has (masks_of (layer_of_costs c)) mask then Some (option_map_or (λ (cell : Cell). cell.cost) (cell_at c mask) 0)
    else None

-- the costs are those of the definition's cells
abbrev pub AreTrueCosts : ℕ → List Function → List Pair → LowerBound → ℕ → CostsOf → Type 0
AreTrueCosts n F P r bound c = (mask : ℕ) → IsTrue (has (masks_of (layer_of_costs c)) mask) →
    cost_at c mask ≡ Some (cell_cost n F P r bound mask)

-- the cells are the definition's
abbrev pub AreTrueCells : ℕ → List Function → List Pair → LowerBound → ℕ → CostsOf → Type 0
AreTrueCells n F P r bound c =
    (i : ℕ) → i < length c.cells → (cell : Cell) → slice_get c.cells i ≡ Some cell →
    as_pair cell ≡ cell_of n F P r bound (slice_index (masks_of (layer_of_costs c)) i)

-- the cost of a set without one member
abbrev pub cost_without : CostsOf → ℕ → ℕ → ℕ
cost_without c mask x = unwrap_or (cost_at c (mask - 2 ^ x)) 0

-- the definition's cell of a set, if the costs of the sets without one member and the widths that the cell takes are the definition's
abbrev pub IsCellFrom : LowerBoundsOf → List Pair → ℕ → ℕ → List ℕ → List ℕ → ℕ × ℕ → Type 0
IsCellFrom v P bound mask below widths cell =
    AreForCell v.problem.inputs (functions v.problem) P v.lower_bound bound mask (slice_index below) (slice_index widths) →
    cell ≡ cell_of v.problem.inputs (functions v.problem) P v.lower_bound bound mask
