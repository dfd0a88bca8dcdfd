-- The cells of a layer, in its order.
--     found_cell      the cell at a place of a list
--     layer_is      the costs of the layer
use Rattle.std.proofs.Common.{◌≡◌, ℕ, ◌<◌, List, map, get_or, length, slice_get, slice_index, Some, sym, ap, ◌∙◌, subst, arith}
use Rattle.std.proofs.lemmas.List.{get_or-map}
use Rattle.std.proofs.lemmas.Option.{slice_get_within, get_or_from_slice_get}
use Rattle.definitions.specs.declared.limits.LowerBound.{LowerBound}
use Rattle.subset_layers.specs.declared.costs.Cell.{Cell}
use Rattle.definitions.specs.Functions.{Function}
use Rattle.definitions.specs.Pairs.{Pair}
use Rattle.definitions.specs.Problems.{functions}
use Rattle.subset_layers.specs.Costs.{CostsOf, costs_with, AreTrueCells, AreTrueCosts}
use Rattle.subset_layers.specs.Layers.{LayerOf, layer_with, masks_of}
use Rattle.layer_core.specs.Instances.{InstanceOf, cell_for}
use Rattle.layer_core.specs.Pairing.{no_cell, pair_of}
use Rattle.layer_core.proofs.Layouts.{length-map_lem}
use Rattle.layer_core.specs.LayerCosts.{IsLayerFor}

pub found_cell : (t : InstanceOf) (masks : List ℕ) (cells : List Cell) (i mask : ℕ) → map pair_of cells ≡ map (cell_for t) masks →
    slice_get masks i ≡ Some mask → pair_of (get_or cells i no_cell) ≡ cell_for t mask
found_cell t masks cells i mask same at =
    let lt = slice_get_within masks i mask at in
    let long : length cells ≡ length masks = sym (length-map_lem pair_of cells) ∙ ap length same ∙ length-map_lem (cell_for t) masks in
    sym (get_or-map pair_of cells i no_cell (0, 0) (omega (arith, long, lt)))
    ∙ ap (λ (xs : List (ℕ × ℕ)). get_or xs i (0, 0)) same
    ∙ get_or-map (cell_for t) masks i 0 (0, 0) lt
    ∙ ap (cell_for t) (get_or_from_slice_get masks i mask 0 at)

-- the costs of a layer from its cells
pub layer_is : (t : InstanceOf) (size : ℕ) (l : LayerOf) (cells : List Cell) (r : CostsOf) → l ≡ layer_with t.problem.inputs size →
    r ≡ costs_with l cells → map pair_of cells ≡ map (cell_for t) (masks_of l) →
    ((F : List Function) (P : List Pair) (v : LowerBound) (bound : ℕ) → AreTrueCells l.inputs F P v bound r → AreTrueCosts l.inputs F P v bound r) →
    IsLayerFor t size r
layer_is t size l cells r layer is same exact = record {
  inputs = ap (λ (c : CostsOf). c.inputs) is ∙ inputs;
  size_is = ap (λ (c : CostsOf). c.size) is ∙ ap (λ (z : LayerOf). z.size) layer;
  costs_are =
      subst (λ (k : ℕ). AreTrueCosts k F P t.lower_bound t.bound r) inputs
      (exact F P t.lower_bound t.bound (subst (λ (k : ℕ). AreTrueCells k F P t.lower_bound t.bound r) (sym inputs) true_cells));
  cells_are = true_cells;
}
  where
    F : List Function
    F = functions t.problem

    P : List Pair
    P = t.pairs.pairs

    inputs : l.inputs ≡ t.problem.inputs
    inputs = ap (λ (z : LayerOf). z.inputs) layer

    there : (i : ℕ) (cell : Cell) → i < length cells → slice_get cells i ≡ Some cell → pair_of cell ≡ cell_for t (slice_index (masks_of l) i)
    there i cell lt at =
        let long : length cells ≡ length (masks_of l) = sym (length-map_lem pair_of cells) ∙ ap length same ∙ length-map_lem (cell_for t) (masks_of l) in
        ap pair_of (sym (get_or_from_slice_get cells i cell no_cell at))
        ∙ sym (get_or-map pair_of cells i no_cell (0, 0) lt)
        ∙ ap (λ (xs : List (ℕ × ℕ)). get_or xs i (0, 0)) same
        ∙ get_or-map (cell_for t) (masks_of l) i 0 (0, 0) (omega (arith, long, lt))

    true_cells : AreTrueCells t.problem.inputs F P t.lower_bound t.bound r
    true_cells = subst (λ (c : CostsOf). AreTrueCells t.problem.inputs F P t.lower_bound t.bound c) (sym is) (λ i lt cell at. there i cell lt at)
