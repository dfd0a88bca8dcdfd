-- The pure machine of a layer: workers claim its blocks in turn, and post and read the cells of its masks.
--     Layout                   the masks of a layer, cut into blocks
--     World, opening           a state of the machine; the state at the start
--     Event, Reply, step       a step of a worker; the machine's reply; the reply to an event, with the state after it
--     run                      the state after a list of events
use Rattle.std.specs.Prelude.{ℕ, ◌+◌, Bool, true, false, nat_eq, nat_lt, List, [], ◌∷◌, length, replicate, slice_index, slice_index_or, slice_set, if◌then◌else◌, Option, Some, None, position}
use mathlib.Core.Option as found
use lib.ListN.{get_elem?}

-- the masks in the layer's order, the block of each, and the number of blocks
pub record Layout : Type 0 where
  pub masks : List ℕ
  pub block_of : List ℕ
  pub blocks : ℕ

-- a mark for each block that the worker claimed, a mark for each place whose cell it knows to be filled, and whether a claim found no block left
pub record Worker : Type 0 where
  pub claims : List Bool
  pub known : List Bool
  pub ended : Bool

-- the counter is the next block to be claimed, and each mask has a cell (cost, variable) once the cell is filled
pub record World : Type 0 where
  pub layout : Layout
  pub counter : ℕ
  pub cells : List (Option (ℕ × ℕ))
  pub workers : List Worker

pub data Event : Type 0 where
  Claim : (worker : ℕ) → Event
  Post : (worker mask : ℕ) (cell : ℕ × ℕ) → Event
  Read : (worker mask : ℕ) → Event

pub data Reply : Type 0 where
  Claimed : (block : ℕ) → Reply
  NoMore : Reply
  Posted : Reply
  Stranger : Reply
  Double : Reply
  Seen : (cell : ℕ × ℕ) → Reply
  Empty : Reply

-- a worker that made no step, at a layer of some blocks and masks
abbrev pub unmarked : ℕ → ℕ → Worker
unmarked blocks masks = record { claims = replicate blocks false; known = replicate masks false; ended = false }

abbrev pub blank : Layout → Worker
blank l = unmarked l.blocks (length l.masks)

abbrev pub opening : Layout → ℕ → World
opening l workers = record {
  layout = l;
  counter = 0;
  cells = replicate (length l.masks) None;
  workers = replicate workers (blank l);
}

-- the place of a mask in the layer
abbrev pub place_of : Layout → ℕ → Option ℕ
place_of l mask = position (λ m. nat_eq mask m) l.masks

abbrev pub cell_at : World → ℕ → Option (ℕ × ℕ)
cell_at s p = slice_index_or s.cells p None

abbrev pub claimed : Worker → ℕ → Bool
claimed w block = slice_index_or w.claims block false

abbrev pub knows : Worker → ℕ → Bool
knows w p = slice_index_or w.known p false

abbrev pub claims_block : Worker → ℕ → Worker
claims_block w block = record w { claims = slice_set w.claims block true }

abbrev pub ends : Worker → Worker
ends w = record w { ended = true }

abbrev pub learns : Worker → ℕ → Worker
learns w p = record w { known = slice_set w.known p true }

-- the state after a step of the worker i, which becomes w
abbrev pub moved : World → ℕ → List (Option (ℕ × ℕ)) → ℕ → Worker → World
moved s counter cells i w = record {
  layout = s.layout;
  counter = counter;
  cells = cells;
  workers = slice_set s.workers i w;
}

-- a claim: the reply is the next block, or that none is left
abbrev pub claim : World → ℕ → found.Option Worker → Reply × World
claim s i found.none = (NoMore, s)
claim s i (found.some w) =
    if w.ended then (NoMore, s)
    else (if nat_lt s.counter s.layout.blocks
    then (Claimed s.counter, moved s (s.counter + 1) s.cells i (claims_block w s.counter)) else
    (NoMore, moved s (s.counter + 1) s.cells i (ends w)))

-- a post at the place p; the last argument is the cell that stands there, if any
abbrev pub fill : World → ℕ → ℕ → ℕ × ℕ → Worker → Option (ℕ × ℕ) → Reply × World
fill s i p cell w None = (Posted, moved s s.counter (slice_set s.cells p (Some cell)) i (learns w p))
fill s i p cell w (Some old) = (Double, s)

abbrev pub post : World → ℕ → ℕ × ℕ → Option ℕ → found.Option Worker → Reply × World
post s i cell place found.none = (Stranger, s)
post s i cell None (found.some w) = (Stranger, s)
post s i cell (Some p) (found.some w) = if claimed w (slice_index s.layout.block_of p)
    then fill s i p cell w (cell_at s p) else (Stranger, s)

abbrev pub look : World → ℕ → ℕ → Worker → Option (ℕ × ℕ) → Reply × World
look s i p w None = (Empty, s)
look s i p w (Some cell) = (Seen cell, moved s s.counter s.cells i (learns w p))

abbrev pub read : World → ℕ → Option ℕ → found.Option Worker → Reply × World
read s i place found.none = (Empty, s)
read s i None (found.some w) = (Empty, s)
read s i (Some p) (found.some w) = look s i p w (cell_at s p)

-- the machine's reply to an event, and the state after it. Workers are numbered from 0; an event of any other number changes nothing
abbrev pub step : World → Event → Reply × World
step s (Claim i) = claim s i (get_elem? s.workers i)
step s (Post i mask cell) = post s i cell (place_of s.layout mask) (get_elem? s.workers i)
step s (Read i mask) = read s i (place_of s.layout mask) (get_elem? s.workers i)

abbrev pub run : World → List Event → World
run s [] = s
run s (e ∷ es) = run (step s e).1 es
