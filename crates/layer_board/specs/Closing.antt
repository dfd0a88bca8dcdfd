-- The cells that a closed board lacks, and what follows from a refused close.
--     IsLeastEmptyMask c mask      the least mask whose cell is empty
--     IsLastState b w s, IsFinalBoard seat c      states and cells that a board may end with, which agree with what a seat knows
--     IsMissingMask seat mask      a mask that is missing, as a seat knows it
--     OneMissesTheLeast      on a board of one worker, the missing mask is the least whose cell the worker doesn't know to be filled
use Rattle.std.specs.Prelude.{◌≡◌, ◌≢◌, ℕ, ◌<◌, ◌≤◌, true, false, length, slice_index, slice_index_or, slice_get, Some, None}
use mathlib.Core.Option.{some}
use lib.ListN.{get_elem?}
use Rattle.subset_layers.specs.Layers.{masks_of}
use Rattle.layer_core.specs.Machine.{World, Worker, knows}
use Rattle.layer_core.specs.Rights.{Right}
use Rattle.layer_core.specs.Instances.{layout_of}
use Rattle.layer_board.specs.Views.{BriefOf, ClosedBoardOf, SeatOf, knows_filled}
use Rattle.layer_board.specs.Invariant.{IsCellAt}

-- the mask's cell is empty, and that of each mask before it is filled
pub record IsLeastEmptyMask (c : ClosedBoardOf) (mask : ℕ) : Type 0 where
  pub place : ℕ
  pub is : slice_get (masks_of c.brief.layer) place ≡ Some mask
  pub empty : slice_index_or c.cells place None ≡ None
  pub least : (q : ℕ) → q < place → slice_index_or c.cells q None ≢ None

-- a last state of the board, in which the seat is one of the workers
pub record IsLastState (b : BriefOf) (w : Worker) (s : World) : Type 0 where
  pub right : Right (IsCellAt b.instance) s
  pub layout : s.layout ≡ layout_of b.layer
  pub few : length s.workers ≤ b.workers
  pub seat : ℕ
  pub has : get_elem? s.workers seat ≡ some w

-- cells that a seat's board may end with
pub record IsFinalBoard (seat : SeatOf) (c : ClosedBoardOf) : Type 0 where
  pub brief : c.brief ≡ seat.board.brief
  pub last : World
  pub is_last : IsLastState c.brief seat.worker last
  pub cells : last.cells ≡ c.cells

-- the mask is the least that is empty in the last cells, and the seat does not know it to be filled
pub record IsMissingMask (seat : SeatOf) (mask : ℕ) : Type 0 where
  pub unknown : knows_filled seat mask ≡ false
  pub last : ClosedBoardOf
  pub is_last : IsFinalBoard seat last
  pub least : IsLeastEmptyMask last mask

-- the mask is the least whose cell the seat does not know to be filled
pub record IsLeastUnknown (seat : SeatOf) (mask : ℕ) : Type 0 where
  pub place : ℕ
  pub within : place < length (layout_of seat.board.brief.layer).masks
  pub is : slice_index (layout_of seat.board.brief.layer).masks place ≡ mask
  pub unknown : knows seat.worker place ≡ false
  pub least : (q : ℕ) → q < place → knows seat.worker q ≡ true

-- on a board of one worker the seat knows each filled cell, so a refused close names the least that it doesn't know to be filled
abbrev pub OneMissesTheLeast : Type 0
OneMissesTheLeast = (seat : SeatOf) (mask : ℕ) → seat.board.brief.workers ≤ 1 → IsMissingMask seat mask → IsLeastUnknown seat mask
