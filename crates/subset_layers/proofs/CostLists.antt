-- The cells and costs of a layer.
--     place_of_found, no_place      the place of a mask of the layer, and of one that is not in it
--     cell_there, cell_absent, cell_of_start      where there is a cell
--     costs_from_cells      the costs of the definition's cells are the definition's
--     less_one      a set of the next layer without one member is in the layer
use Rattle.std.proofs.Common.{◌≡◌, ◌≢◌, ℕ, ◌+◌, ◌-◌, ◌/◌, ◌%◌, ◌*◌, ◌^◌, ◌<◌, ◌≤◌, true, false, cond, inl, inr, Option, Some, None, List, [], ◌∷◌, length, get_or, slice_get, IsSome, IsTrue, is_some, ◌↔◌, refl, sym, ap, ◌∙◌, subst, arith, nat_eq, eqb-true, eq-eqb, ne_eqb, one-add, eqb, bit_and}
use Rattle.std.specs.Option.{option_map_or}
use Rattle.std.specs.List.{IsDistinct, range_with_len}
use Rattle.std.proofs.lemmas.Bool.{false≢true, true≢false, cases_Bool, cases_eq, and_parts, and_from, cases_lt}
use Rattle.std.proofs.lemmas.Nat.{zero_from_ones}
use Rattle.std.proofs.lemmas.Cmp.{nat_eq_equiv}
use Rattle.std.proofs.lemmas.Map.Made.{length-from_same_keys}
use Rattle.std.proofs.lemmas.Option.{slice_get_within, slice_get_past, slice_get-get_or, get_or_from_slice_get}
use Rattle.definitions.specs.Functions.{Function}
use Rattle.definitions.specs.Orders.{has, members, without, variables, place_in}
use Rattle.definitions.specs.Pairs.{Pair}
use Rattle.definitions.specs.declared.limits.LowerBound.{LowerBound}
use Rattle.definitions.specs.Cells.{cell_of, cell_cost}
use Rattle.definitions.proofs.Lists.Orders.{has_variables, place_get, place_at, place_small}
use Rattle.definitions.proofs.Widths.Recurrence.{distinct_filter, distinct_variables, distinct_without, length_without}
use Rattle.std.specs.Int.{bit_at}
use Rattle.std.proofs.Math.Nat.{div-eq_of_lt}
use Rattle.std.proofs.lemmas.Nat.Bits.{shr_and_one}
use Rattle.definitions.proofs.Bits.Masks.{has_members, distinct_members, members_without}
use Rattle.definitions.proofs.Widths.Cells.{members_zero}
use Rattle.subset_layers.specs.declared.costs.Cell.{Cell}
use Rattle.subset_layers.specs.Layers.{LayerOf, layer_with, masks_of}
use Rattle.subset_layers.specs.Costs.{CostsOf, HaveCells, costs_with, layer_of_costs, cell_at, cost_at, as_pair, start_costs, AreTrueCells, AreTrueCosts}
use Rattle.subset_layers.proofs.BlockLists.{has_slice_get, has_masks, masks_has}
use Rattle.definitions.proofs.Bits.Ones.{ones-members}

pub distinct_masks : (l : LayerOf) → IsDistinct nat_eq (masks_of l)
unfolding masks_of
distinct_masks l =
    distinct_filter (λ mask. nat_eq (length (members l.inputs mask)) l.size) (range_with_len 0 (2 ^ l.inputs))
    (distinct_variables (2 ^ l.inputs))

-- the place of a mask that was found
pub place_of_found : (l : LayerOf) (mask i : ℕ) → slice_get (masks_of l) i ≡ Some mask → place_in (masks_of l) mask ≡ i
place_of_found l mask i h =
    let e = get_or_from_slice_get (masks_of l) i mask 0 h in
    ap (place_in (masks_of l)) (sym e) ∙ place_get (masks_of l) i (distinct_masks l) (slice_get_within (masks_of l) i mask h)

-- a mask that is not there has no place
pub no_place : (xs : List ℕ) (v : ℕ) → has xs v ≡ false → place_in xs v ≡ length xs
unfolding place_in
no_place [] v h = refl
no_place (x ∷ xs) v h = grind (arith, true≢false, one-add, no_place xs v)

module _ (c : CostsOf) (h : HaveCells c) where
  few_cells : length c.cells ≤ length (masks_of (layer_of_costs c))
  few_cells = grind arith

  all_cells : 0 < c.size → length c.cells ≡ length (masks_of (layer_of_costs c))
  all_cells lt = h.count ∙ ap (λ b. cond b 0 (length (masks_of (layer_of_costs c)))) (ne_eqb c.size 0 (λ e. absurd (omega arith)))

  -- a set that is not in the layer has no cell
  pub cell_absent : (mask : ℕ) → has (masks_of (layer_of_costs c)) mask ≡ false → cell_at c mask ≡ None
  unfolding cell_at
  cell_absent mask e =
      slice_get_past c.cells (place_in (masks_of (layer_of_costs c)) mask)
      (omega (arith, no_place (masks_of (layer_of_costs c)) mask e, few_cells))

  -- the empty set has none
  pub cell_of_start : (mask : ℕ) → c.size ≡ 0 → cell_at c mask ≡ None
  unfolding cell_at
  cell_of_start mask e =
      slice_get_past c.cells (place_in (masks_of (layer_of_costs c)) mask)
      (omega (arith, h.count ∙ ap (λ b. cond b 0 (length (masks_of (layer_of_costs c)))) (eq-eqb c.size 0 e)))

  -- any other set of the layer has one
  pub cell_there : (mask : ℕ) → 0 < c.size → has (masks_of (layer_of_costs c)) mask ≡ true → place_in (masks_of (layer_of_costs c)) mask < length c.cells
  cell_there mask lt m = omega (arith, place_small (masks_of (layer_of_costs c)) mask m, all_cells lt)

-- the cell at a place
pub cell_at_place : (c : CostsOf) (mask i : ℕ) → slice_get (masks_of (layer_of_costs c)) i ≡ Some mask → cell_at c mask ≡ slice_get c.cells i
unfolding cell_at
cell_at_place c mask i h = ap (slice_get c.cells) (place_of_found (layer_of_costs c) mask i h)

-- the cost at a place
pub cost_at_place : (c : CostsOf) (mask i : ℕ) → slice_get (masks_of (layer_of_costs c)) i ≡ Some mask →
    cost_at c mask ≡ Some (option_map_or (λ (cell : Cell). cell.cost) (slice_get c.cells i) 0)
unfolding cost_at
cost_at_place c mask i h =
    ap (λ b. cond b (Some (option_map_or (λ (cell : Cell). cell.cost) (cell_at c mask) 0)) None) (has_slice_get (masks_of (layer_of_costs c)) i mask h)
    ∙ ap (λ o. Some (option_map_or (λ (cell : Cell). cell.cost) o 0)) (cell_at_place c mask i h)

pub cost_absent : (c : CostsOf) (mask : ℕ) → has (masks_of (layer_of_costs c)) mask ≡ false → cost_at c mask ≡ None
unfolding cost_at
cost_absent c mask e = ap (λ b. cond b (Some (option_map_or (λ (cell : Cell). cell.cost) (cell_at c mask) 0)) None) e

-- a cell that was read is the definition's
pub true_cell : (n : ℕ) (F : List Function) (P : List Pair) (r : LowerBound) (bound : ℕ) (c : CostsOf) → AreTrueCells n F P r bound c →
    (mask i : ℕ) (cell : Cell) → slice_get (masks_of (layer_of_costs c)) i ≡ Some mask → slice_get c.cells i ≡ Some cell →
    as_pair cell ≡ cell_of n F P r bound mask
true_cell n F P r bound c t mask i cell m e = t i (slice_get_within c.cells i cell e) cell e
    ∙ ap (cell_of n F P r bound) (get_or_from_slice_get (masks_of (layer_of_costs c)) i mask 0 m)

-- the empty set's layer has its cost
pub start_true : (n : ℕ) (F : List Function) (P : List Pair) (r : LowerBound) (bound : ℕ) → AreTrueCosts n F P r bound (start_costs n)
unfolding cost_at cell_at cell_cost
start_true n F P r bound mask h = grind (arith, has_masks, slice_get_past, eq-eqb, zero_from_ones, ones-members)

-- the costs of the definition's cells
pub costs_from_cells : (n : ℕ) (F : List Function) (P : List Pair) (r : LowerBound) (bound : ℕ) (c : CostsOf) → HaveCells c → 0 < c.size →
    AreTrueCells n F P r bound c → AreTrueCosts n F P r bound c
unfolding cell_cost
costs_from_cells n F P r bound c h lt t mask m =
    let i = place_in (masks_of (layer_of_costs c)) mask in
    let found : slice_get (masks_of (layer_of_costs c)) i ≡ Some mask =
    slice_get-get_or (masks_of (layer_of_costs c)) i 0 (place_small (masks_of (layer_of_costs c)) mask m)
    ∙ ap Some (place_at (masks_of (layer_of_costs c)) mask (place_small (masks_of (layer_of_costs c)) mask m)) in
    let read : slice_get c.cells i ≡ Some (get_or c.cells i no_cell) = slice_get-get_or c.cells i no_cell (cell_there c h mask lt m) in
    let is : as_pair (get_or c.cells i no_cell) ≡ cell_of n F P r bound mask = true_cell n F P r bound c t mask i (get_or c.cells i no_cell) found read in
    cost_at_place c mask i found ∙ ap (λ o. Some (option_map_or (λ (cell : Cell). cell.cost) o 0)) read ∙ ap Some (ap (λ (p : ℕ × ℕ). p.0) is)
    ∙ ap (λ b. Some (cond b 0 (cell_of n F P r bound mask).0)) (sym (ne_eqb mask 0 not_empty))
  where
    no_cell : Cell
    no_cell = record { cost = 0; variable = 0 }

    not_empty : mask ≢ 0
    not_empty e =
        let l : length (members c.inputs mask) ≡ c.size = (has_masks c.inputs c.size mask m).1 in
        absurd (omega (arith, ap length (ap (members c.inputs) e ∙ members_zero c.inputs)))

-- a set of the next layer without one member is in the layer
pub less_one : (n k mask x : ℕ) → has (masks_of (layer_with n (k + 1))) mask ≡ true → has (members n mask) x ≡ true →
    has (masks_of (layer_with n k)) (mask - 2 ^ x) ≡ true
less_one n k mask x m h =
    let is = has_masks n (k + 1) mask m in
    let one = length_without x (members n mask) (distinct_members n mask) h in
    let same : length (members n (mask - 2 ^ x)) ≡ length (without x (members n mask)) =
    length-from_same_keys nat_eq_equiv (members n (mask - 2 ^ x)) (without x (members n mask)) (distinct_members n (mask - 2 ^ x))
    (distinct_without x (members n mask) (distinct_members n mask)) (members_without n mask x h) in
    masks_has n k (mask - 2 ^ x) (omega arith) (omega arith)

pub have_cells : (l : LayerOf) (cells : List Cell) → l.inputs ≤ 16 → 0 < l.size → length cells ≡ length (masks_of l) → HaveCells (costs_with l cells)
have_cells l cells few lt e =
    record { few_inputs = few; count = e ∙ sym (ap (λ b. cond b 0 (length (masks_of l))) (ne_eqb l.size 0 (λ z. absurd (omega arith)))) }

-- there is a cell just for the sets of a layer that is not the empty set's
pub cell_some : (c : CostsOf) → HaveCells c → (mask : ℕ) → IsSome (cell_at c mask) ↔ (IsTrue (has (masks_of (layer_of_costs c)) mask) × (0 < c.size))
unfolding cell_at
cell_some c h mask = (there, back)
  where
    there : IsSome (cell_at c mask) → IsTrue (has (masks_of (layer_of_costs c)) mask) × (0 < c.size)
    there s = elim (cases_Bool (has (masks_of (layer_of_costs c)) mask)) [
      | inl m ↦ (
        m,
        elim (cases_eq c.size 0) [
          | inl e ↦ absurd (false≢true (sym (ap is_some (cell_of_start c h mask e)) ∙ s))
          | inr ne ↦ omega arith
        ],
      )
      | inr a ↦ absurd (false≢true (sym (ap is_some (cell_absent c h mask a)) ∙ s))
    ]

    back : IsTrue (has (masks_of (layer_of_costs c)) mask) × (0 < c.size) → IsSome (cell_at c mask)
    back (m, lt) =
        ap is_some (slice_get-get_or c.cells (place_in (masks_of (layer_of_costs c)) mask) (record { cost = 0; variable = 0 })
        (cell_there c h mask lt m))

pub IsSome_along : {X : Type 0} {A : Type 0} (o p : Option X) → o ≡ p → (IsSome p ↔ A) → IsSome o ↔ A
IsSome_along {X} {A} o p e h = subst (λ (q : Option X). IsSome q ↔ A) (sym e) h

-- ---- bits of a mask in the code

pub member_from_bit : (n mask x : ℕ) → x < n → bit_and (mask / 2 ^ x) 1 ≡ 1 → has (members n mask) x ≡ true
member_from_bit n mask x lt e = has_members n mask x ∙ and_from _ _ ((has_variables n x).1 lt) (eq-eqb (bit_at mask x) 1 (sym (shr_and_one mask x) ∙ e))

pub bit_from_member : (n mask x : ℕ) → has (members n mask) x ≡ true → bit_and (mask / 2 ^ x) 1 ≡ 1
bit_from_member n mask x h = shr_and_one mask x
    ∙ eqb-true (bit_at mask x) 1 (and_parts (has (variables n) x) (eqb (bit_at mask x) 1) (sym (has_members n mask x) ∙ h)).1

pub power_le_mask : (mask x : ℕ) → bit_and (mask / 2 ^ x) 1 ≡ 1 → 2 ^ x ≤ mask
power_le_mask mask x e = grind (arith, cases_lt, div-eq_of_lt, shr_and_one)

-- the shifted bit of the code
pub shifted_bit : (mask x : ℕ) → mask < 65536 → bit_and (mask / 2 ^ x) 1 ≡ 1 → 1 * 2 ^ x % 65536 ≡ 2 ^ x
shifted_bit mask x lt e = omega (arith, power_le_mask mask x e)
