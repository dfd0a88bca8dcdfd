-- Where the sets of a block stand in its layer.
--     block_layer      the layer of the block at a place
--     in_place      a mask is in the block just where its low byte has the block's place
--     block_has      a mask of a block is in its layer
use Rattle.std.proofs.Common.{◌≡◌, ℕ, ◌<◌, true, get_or, length, slice_get, Some, sym, ap, ◌∙◌, arith, nat_eq, eqb}
use Rattle.std.specs.List.{list_any, IsDistinct, range_with_len}
use Rattle.std.proofs.lemmas.Bool.{and_parts}
use Rattle.std.proofs.lemmas.Option.{slice_get_within, same_Some}
use Rattle.definitions.specs.Orders.{has, place_in}
use Rattle.definitions.proofs.Lists.Orders.{has_filter, place_get, place_at, place_small}
use Rattle.definitions.proofs.Widths.Recurrence.{distinct_filter, distinct_variables}
use Rattle.subset_layers.specs.Layers.{LayerOf, BlockOf, layer_of, block_of, masks_of, block_masks, blocks_of, low_bytes, low_byte}
use Rattle.subset_layers.proofs.BlockLists.{has_slice_get, low_bytes_has, blocks_length, block_at as block_there, slice_get_at}

-- the block at a place has the low byte there
block_is : (l : LayerOf) (p : ℕ) (b : BlockOf) → slice_get (blocks_of l) p ≡ Some b →
    (p < length (low_bytes l)) × (b ≡ block_of l.inputs l.size (get_or (low_bytes l) p 0))
block_is l p b is =
    let lt : p < length (low_bytes l) = (let w = slice_get_within (blocks_of l) p b is in let e = blocks_length l in omega arith) in (
      lt,
      same_Some b (block_of l.inputs l.size (get_or (low_bytes l) p 0))
          (sym is ∙ block_there l p (get_or (low_bytes l) p 0) (slice_get_at (low_bytes l) p lt)),
    )

pub block_layer : (l : LayerOf) (p : ℕ) (b : BlockOf) → slice_get (blocks_of l) p ≡ Some b → layer_of b ≡ l
block_layer l p b is = ap layer_of (block_is l p b is).1

distinct_lows : (l : LayerOf) → IsDistinct nat_eq (low_bytes l)
unfolding low_bytes
distinct_lows l = distinct_filter (λ low. list_any (λ mask. nat_eq (low_byte mask) low) (masks_of l)) (range_with_len 0 256) (distinct_variables 256)

-- a mask lies in the block just where its low byte has the block's place
pub in_place : (l : LayerOf) (p : ℕ) (b : BlockOf) (mask : ℕ) → slice_get (blocks_of l) p ≡ Some b → has (masks_of l) mask ≡ true →
    (low_byte mask ≡ b.low → place_in (low_bytes l) (low_byte mask) ≡ p)
    × (place_in (low_bytes l) (low_byte mask) ≡ p → low_byte mask ≡ b.low)
in_place l p b mask is m = grind (arith, block_is, place_small, has_slice_get, low_bytes_has, place_get, distinct_lows, place_at)

-- a mask of a block is in its layer
pub block_has : (blk : BlockOf) (i mask : ℕ) → slice_get (block_masks blk) i ≡ Some mask → has (masks_of (layer_of blk)) mask ≡ true
unfolding block_masks
block_has blk i mask is =
    (and_parts _ _
    (sym (has_filter (λ m. eqb (low_byte m) blk.low) (masks_of (layer_of blk)) mask) ∙ has_slice_get (block_masks blk) i mask is)).0
