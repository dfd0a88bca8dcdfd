-- What a board is for, what a seat at it knows, and what contracts see of a board, a seat and a claim.
--     BriefOf, SeatView      what a board is for; what the seat of a worker knows
--     BoardId, ClosedBoardOf, SeatOf, ClaimOf      a board, a closed one, a seat, a claim
use Rattle.std.specs.Prelude.{ℕ, ◌+◌, Bool, false, List, [], length, slice_index, Option, Some, None, if◌then◌else◌}
use Rattle.atomic_table.specs.Seated.{TableId}
use Rattle.definitions.specs.declared.limits.LowerBound.TheVariants.{Variables}
use Rattle.subset_layers.specs.Layers.{LayerOf, BlockOf, masks_of, blocks_of}
use Rattle.layer_core.specs.Machine.{Worker, unmarked, claimed, knows, place_of, ends, learns}
use Rattle.layer_core.specs.Instances.{InstanceOf, layout_of}

-- what a board is for: the cells of a layer, for some workers
pub record BriefOf : Type 0 where
  pub instance : InstanceOf
  pub layer : LayerOf
  pub workers : ℕ

-- what a seat knows, how many workers it stands for, and how many steps and writes it made
pub record SeatView : Type 0 where
  pub brief : BriefOf
  pub worker : Worker
  pub seats : ℕ
  pub steps : ℕ
  pub writes : ℕ

-- a seat that stands for n workers, none of which made a step
abbrev pub fresh : BriefOf → ℕ → SeatView
fresh b n = record {
  brief = b;
  worker = unmarked (length (blocks_of b.layer)) (length (masks_of b.layer));
  seats = n;
  steps = 0;
  writes = 0;
}

-- a seat after a step, which was also a write if `wrote` is 1
abbrev pub after : SeatView → Worker → ℕ → SeatView
after v w wrote = record {
  brief = v.brief;
  worker = w;
  seats = v.seats;
  steps = v.steps + 1;
  writes = v.writes + wrote;
}

pub record BoardId : Type 0 where
  pub table : TableId
  pub brief : BriefOf

-- a closed board: what it was for, and the cell of each mask, None if it is empty
pub record ClosedBoardOf : Type 0 where
  pub brief : BriefOf
  pub cells : List (Option (ℕ × ℕ))

-- a worker's seat: its board, the blocks that it claimed, the cells that it knows to be filled, and how many steps and writes it made
pub record SeatOf : Type 0 where
  pub board : BoardId
  pub worker : Worker
  pub steps : ℕ
  pub writes : ℕ

-- the seat of a worker that made no step
abbrev pub first_seat : BoardId → SeatOf
first_seat b = record {
  board = b;
  worker = unmarked (length (blocks_of b.brief.layer)) (length (masks_of b.brief.layer));
  steps = 0;
  writes = 0;
}

-- a seat after a step, which was also a write if `wrote` is 1
abbrev pub stepped : SeatOf → Worker → ℕ → SeatOf
stepped s w wrote = record { board = s.board; worker = w; steps = s.steps + 1; writes = s.writes + wrote }

-- a block and its place in the layer
pub record ClaimOf : Type 0 where
  pub place : ℕ
  pub block : BlockOf

abbrev pub claims_place : LayerOf → Worker → Option ℕ → Bool
claims_place l w None = false
claims_place l w (Some p) = claimed w (slice_index (layout_of l).block_of p)

-- whether the seat claimed the block of a mask
abbrev pub has_claimed : SeatOf → ℕ → Bool
has_claimed s mask = claims_place s.board.brief.layer s.worker (place_of (layout_of s.board.brief.layer) mask)

abbrev pub knows_place : Worker → Option ℕ → Bool
knows_place w None = false
knows_place w (Some p) = knows w p

-- whether the seat knows the cell of a mask to be filled
abbrev pub knows_filled : SeatOf → ℕ → Bool
knows_filled s mask = knows_place s.worker (place_of (layout_of s.board.brief.layer) mask)

abbrev pub learns_place : Worker → Option ℕ → Worker
learns_place w None = w
learns_place w (Some p) = learns w p

-- a seat after a step, or a write if `wrote` is 1, by which it knows the cell of a mask to be filled
abbrev pub learned : SeatOf → ℕ → ℕ → SeatOf
learned s mask wrote = stepped s (learns_place s.worker (place_of (layout_of s.board.brief.layer) mask)) wrote

-- a seat after a claim that finds no block: a seat that found none before makes no step
abbrev pub no_more : SeatOf → SeatOf
no_more s = if s.worker.ended then s else stepped s (ends s.worker) 1

abbrev pub found_empty_at : SeatOf → Option ℕ → SeatOf
found_empty_at s None = s
found_empty_at s (Some p) = stepped s s.worker 0

-- a seat after it read a mask and found no cell: it makes no step if the mask is not in the layer
abbrev pub found_empty : SeatOf → ℕ → SeatOf
found_empty s mask = found_empty_at s (place_of (layout_of s.board.brief.layer) mask)

-- some view, of which nothing is used
abbrev pub nothing_known : SeatView
nothing_known = record {
  brief = record {
    instance = record { problem = record { inputs = 0; tables = [] }; pairs = record { inputs = 0; pairs = [] }; lower_bound = Variables; bound = 0 };
    layer = record { inputs = 0; size = 0 };
    workers = 0;
  };
  worker = record { claims = []; known = []; ended = false };
  seats = 0;
  steps = 0;
  writes = 0;
}
