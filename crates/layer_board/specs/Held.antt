-- What a board and a seat show and keep.
use Rattle.std.specs.Prelude.{◌≡◌, ◌+◌, ◌^◌, ◌≤◌, [], length}
use Rattle.subset_layers.specs.Layers.{masks_of, blocks_of}
use Rattle.layer_board.specs.declared.boards.Board.TheInside as board
use Rattle.layer_board.specs.declared.seats.BoardSeat.TheInside as seat
use Rattle.layer_board.specs.Views.{BoardId, SeatOf, SeatView}

abbrev pub board_shown : board.Inside → BoardId
board_shown b = record { table = b.table.shared.table_id; brief = b.table.shared.key }

pub record IsBoard (b : board.Inside) : Type 0 where
  pub layer : b.layer ≡ b.table.shared.key.layer
  pub no_slots : b.table.shared.table_id.slots ≡ 0
  pub words : b.table.shared.table_id.words ≡ length (masks_of b.layer) + 1
  pub few : length (masks_of b.layer) ≤ 2 ^ 16

abbrev pub view_of : seat.Inside → SeatView
view_of s = s.seat.me.0

abbrev pub seat_shown : seat.Inside → SeatOf
seat_shown s =
    record {
      board =
          record { table = s.seat.table_id; brief = (view_of s).brief };
      worker =
          (view_of s).worker;
      steps = (view_of s).steps;
      writes = (view_of s).writes;
    }

-- the marks that a seat stores are those of its view
pub record IsBoardSeat (s : seat.Inside) : Type 0 where
  pub claims : s.claims.items ≡ (view_of s).worker.claims
  pub ended : s.ended ≡ (view_of s).worker.ended
  pub claims_wide : length (view_of s).worker.claims ≡ length (blocks_of (view_of s).brief.layer)
  pub known_wide : length (view_of s).worker.known ≡ length (masks_of (view_of s).brief.layer)
  pub no_slots : s.seat.me.1 ≡ []
