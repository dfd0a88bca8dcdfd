use Rattle.std.proofs.Common.{◌≡◌, ◌<◌, ℕ, List, ◌%◌, true, length, get_or, sym, ap, ◌∙◌, arith}
use Rattle.definitions.specs.Orders.{has, place_in}
use Rattle.subset_layers.specs.Layers.{LayerOf, layer_with, low_bytes, masks_of, blocks_of, block_place}
use Rattle.subset_layers.specs.Selections.{ArePlaced}
use Rattle.subset_layers.proofs.BlockLists.{default_free, low_of_mask, table_place, blocks_length}
use Rattle.subset_layers.proofs.layers.Layer.block_place.Goals as goal

-- where the table of low bytes points at a mask's own
low_place : (n k i v : ℕ) (m : LayerOf) (masks lows places : List ℕ) → layer_with n k ≡ m → masks ≡ masks_of (layer_with n k) →
    lows ≡ low_bytes (layer_with n k) → ArePlaced lows places →
    i < length (masks_of m) → v ≡ get_or masks i v →
    (v % 256 < length places) × (get_or places (v % 256) 0 ≡ block_place m i) × (get_or places (v % 256) 0 < length (blocks_of m))
unfolding block_place
low_place n k i v m masks lows places l e f t h w =
    let few : length (masks_of m) ≡ length masks = ap (λ x. length (masks_of x)) (sym l) ∙ ap length (sym e) in
    let read : v ≡ get_or (masks_of (layer_with n k)) i 0 = default_free masks i v (omega arith) w ∙ ap (λ xs. get_or xs i 0) e in
    let member : has lows (v % 256) ≡ true = ap (λ xs. has xs (v % 256)) f ∙ ap (λ u. has (low_bytes (layer_with n k)) (u % 256)) read
    ∙ low_of_mask n k i (omega (arith, ap length e)) in
    let p = table_place lows places (v % 256) t member in
    let same : place_in lows (v % 256) ≡ block_place m i = ap (λ xs. place_in xs (v % 256)) f
    ∙ ap (λ u. place_in (low_bytes (layer_with n k)) (u % 256)) read ∙ ap (λ x. block_place x i) l in
    (p.0, p.1 ∙ same, omega (arith, ap length f ∙ ap (λ x. length (low_bytes x)) l ∙ sym (blocks_length m)))

pub index-requires-2 : goal.index-requires-2
index-requires-2 c =
    let p = low_place c.self.inside.inputs c.self.inside.size c.args.i c.index.result.now c.args.self.now c.self.inside.masks.numbers.items
    c.self.inside.lows.numbers.items c.self.inside.lows.places.items
    c.self.view_is c.self.invariant.masks_are c.self.invariant.lows_are c.self.inside.lows.placed c.requires c.index.ensures in
    omega (arith, p.0)

pub returns-clause-place : goal.returns-clause-place
returns-clause-place c = grind (arith, low_place, default_free)

pub returns-clause-below : goal.returns-clause-below
returns-clause-below c =
    let p = low_place c.self.inside.inputs c.self.inside.size c.args.i c.index.result.now c.args.self.now c.self.inside.masks.numbers.items
    c.self.inside.lows.numbers.items c.self.inside.lows.places.items
    c.self.view_is c.self.invariant.masks_are c.self.invariant.lows_are c.self.inside.lows.placed c.requires c.index.ensures in
    omega (arith, p.2, default_free c.self.inside.lows.places.items (c.index.result.now % 256) c.index-2.result.now p.0 c.index-2.ensures)
