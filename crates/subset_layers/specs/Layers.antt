-- Layers of the sets of variables, and their blocks. Sets stand as masks, bit x for variable x.
--     LayerOf, masks_of l      a layer, and its masks: all sets of one size, rising
--     BlockOf, block_masks b      a block, and its masks: those of a layer with one low byte, rising
--     low_bytes l, blocks_of l      the low bytes of a layer's masks, rising; the layer's blocks, by rising low byte
--     block_place l i      the place of the block to which the mask at a place belongs
use Rattle.std.specs.Prelude.{◌≡◌, ◌≤◌, ℕ, ◌%◌, ◌^◌, List, map, length, nat_eq, slice_index}
use Rattle.std.specs.List.{filter, list_any, range_with_len}
use Rattle.definitions.specs.Orders.{members, place_in}

-- the sets of one size, of a number of variables
pub record LayerOf : Type 0 where
  pub inputs : ℕ
  pub size : ℕ

-- the layer of the sets of a size
abbrev pub layer_with : ℕ → ℕ → LayerOf
layer_with inputs size = record { inputs = inputs; size = size }

-- the masks of a layer, rising
unfoldable pub masks_of : LayerOf → List ℕ
masks_of l = filter (λ mask. nat_eq (length (members l.inputs mask)) l.size) (range_with_len 0 (2 ^ l.inputs))

-- the masks of a layer whose variables 0 to 7 are those of one low byte
pub record BlockOf : Type 0 where
  pub inputs : ℕ
  pub size : ℕ
  pub low : ℕ

-- the block of the sets of a size with a low byte
abbrev pub block_of : ℕ → ℕ → ℕ → BlockOf
block_of inputs size low = record { inputs = inputs; size = size; low = low }

-- the layer of a block
abbrev pub layer_of : BlockOf → LayerOf
layer_of b = record { inputs = b.inputs; size = b.size }

-- the variables 0 to 7 of a mask
abbrev pub low_byte : ℕ → ℕ
low_byte mask = mask % 256

-- the masks of a block, rising
unfoldable pub block_masks : BlockOf → List ℕ
block_masks b = filter (λ mask. nat_eq (low_byte mask) b.low) (masks_of (layer_of b))

-- the low bytes of a layer's masks, rising, each once
unfoldable pub low_bytes : LayerOf → List ℕ
low_bytes l = filter (λ low. list_any (λ mask. nat_eq (low_byte mask) low) (masks_of l)) (range_with_len 0 256)

-- what a layer's tables hold: its masks, and its low bytes
pub record AreLayer (l : LayerOf) (masks lows : List ℕ) : Type 0 where
  pub few_inputs : l.inputs ≤ 16
  pub masks_are : masks ≡ masks_of l
  pub lows_are : lows ≡ low_bytes l

-- the blocks of a layer, by rising low byte
unfoldable pub blocks_of : LayerOf → List BlockOf
blocks_of l = map (block_of l.inputs l.size) (low_bytes l)

-- the place of the block that holds the mask at a place of the layer
unfoldable pub block_place : LayerOf → ℕ → ℕ
block_place l i = place_in (low_bytes l) (low_byte (slice_index (masks_of l) i))
