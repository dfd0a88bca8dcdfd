-- What a closed board shows and keeps.
use Rattle.std.specs.Prelude.{◌≡◌, ◌≢◌, ℕ, ◌+◌, ◌^◌, ◌≤◌, length, map, slice_index, slice_index_or, None, IfSome}
use Rattle.std.specs.Slots.{slots_items, slots_len, IsFull}
use Rattle.subset_layers.specs.Layers.{masks_of}
use Rattle.layer_board.specs.declared.closed.ClosedBoard.TheInside as closed
use Rattle.layer_board.specs.Views.{ClosedBoardOf}
use Rattle.layer_board.specs.Invariant.{IsCellAt, IsCellWord, cell_in, cell_words}

abbrev pub closed_board : closed.Inside → ClosedBoardOf
closed_board c = record { brief = c.board.value.brief; cells = map cell_in (cell_words (slots_items c.closed.words)) }

-- each mask has a word for its cell, and each such word that isn't 0 is that of the mask's cell
pub record IsClosedBoard (c : closed.Inside) : Type 0 where
  pub layer : c.layer ≡ c.board.value.brief.layer
  pub few : length (masks_of c.layer) ≤ 2 ^ 16
  pub full : IsFull c.closed.words
  pub size : slots_len c.closed.words ≡ length (masks_of c.layer) + 1
  pub no_slots : slots_len c.closed.slots ≡ 0
  pub words : (p : ℕ) → slice_index (cell_words (slots_items c.closed.words)) p ≢ 0 →
      IsCellWord (slice_index (cell_words (slots_items c.closed.words)) p)
  pub true_cells : (p : ℕ) → IfSome (slice_index_or (closed_board c).cells p None)
      (IsCellAt c.board.value.brief.instance (slice_index (masks_of c.board.value.brief.layer) p))
