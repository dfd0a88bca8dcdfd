-- Right states of a layer's machine: those that the machine can be in if each posted cell is right.
--     Right IsCell s           the state is right, where IsCell says which cell each mask has
--     RightFor n F P r bound s   the state is right for the cells of the functions, the pairs, the rule of the lower bound, and the bound
--     ArePosted n F P r bound events     each posted cell is the one of its mask
use Rattle.std.specs.Prelude.{◌≡◌, ◌≢◌, ℕ, ◌+◌, ◌<◌, ◌≤◌, true, List, [], ◌∷◌, length, map, slice_index, Option, Some, None, IfSome}
use mathlib.Core.Option.{some}
use lib.ListN.{get_elem?}
use Rattle.definitions.specs.Functions.{Function, weight}
use Rattle.definitions.specs.Pairs.{Pair}
use Rattle.definitions.specs.declared.limits.LowerBound.{LowerBound}
use Rattle.definitions.specs.Cells.{cell_of}
use Rattle.layer_core.specs.Machine.{Layout, Worker, World, Event, Claim, Post, Read, cell_at, claimed, knows}

-- the sum of f over the elements
abbrev pub total : {A : Type 0} → (A → ℕ) → List A → ℕ
total f [] = 0
total f (x ∷ xs) = f x + total f xs

-- how many workers claimed the block
abbrev pub claimants : ℕ → List Worker → ℕ
claimants block ws = total (λ w. weight (claimed w block)) ws

-- how many workers found no block left
abbrev pub told_number : List Worker → ℕ
told_number ws = total (λ w. weight w.ended) ws

-- each mask lies in a block
pub record IsLayout (l : Layout) : Type 0 where
  pub placed : (p : ℕ) → p < length l.masks → slice_index l.block_of p < l.blocks

pub record Right (IsCell : ℕ → ℕ × ℕ → Type 0) (s : World) : Type 0 where
  pub laid : IsLayout s.layout
  -- each mask has a place for its cell, and each worker a mark a block and a mark a mask
  pub size : length s.cells ≡ length s.layout.masks
  pub marks : (i : ℕ) (w : Worker) → get_elem? s.workers i ≡ some w →
      (length w.claims ≡ s.layout.blocks) × (length w.known ≡ length s.layout.masks)
  -- each filled cell is its mask's
  pub true_cells : (p : ℕ) → IfSome (cell_at s p) (IsCell (slice_index s.layout.masks p))
  -- each block below the counter is claimed by exactly one worker, and each other block by none
  pub below : (b : ℕ) → b < s.layout.blocks → b < s.counter → claimants b s.workers ≡ 1
  pub above : (b : ℕ) → b < s.layout.blocks → s.counter ≤ b → claimants b s.workers ≡ 0
  -- each filled mask was claimed by a worker that knows it to be filled
  pub filled : (p : ℕ) → cell_at s p ≢ None →
      (i : ℕ) × (w : Worker) × (get_elem? s.workers i ≡ some w)
      × ((claimed w (slice_index s.layout.block_of p) ≡ true) × (knows w p ≡ true))
  -- what a worker knows to be filled is filled
  pub known : (i : ℕ) (w : Worker) → get_elem? s.workers i ≡ some w → (p : ℕ) → knows w p ≡ true → cell_at s p ≢ None
  -- the counter passes the number of blocks by at most one for each worker that found no block left
  pub counted : s.counter ≤ s.layout.blocks + told_number s.workers
  pub ended : (i : ℕ) (w : Worker) → get_elem? s.workers i ≡ some w → w.ended ≡ true → s.layout.blocks ≤ s.counter

-- the cell of a mask for the functions, the pairs, the lower bound on the nodes above a set, and the bound
abbrev pub IsCellFor : ℕ → List Function → List Pair → LowerBound → ℕ → ℕ → ℕ × ℕ → Type 0
IsCellFor n F P r bound mask cell = cell ≡ cell_of n F P r bound mask

abbrev pub RightFor : ℕ → List Function → List Pair → LowerBound → ℕ → World → Type 0
RightFor n F P r bound = Right (IsCellFor n F P r bound)

-- IsCell holds for each mask that is posted and its cell
abbrev pub Posts : (ℕ → ℕ × ℕ → Type 0) → List Event → Type 0
Posts IsCell [] = Unit {0}
Posts IsCell (Claim i ∷ es) = Posts IsCell es
Posts IsCell (Post i mask cell ∷ es) = IsCell mask cell × Posts IsCell es
Posts IsCell (Read i mask ∷ es) = Posts IsCell es

abbrev pub ArePosted : ℕ → List Function → List Pair → LowerBound → ℕ → List Event → Type 0
ArePosted n F P r bound = Posts (IsCellFor n F P r bound)

-- every mask of the layer has a cell
abbrev pub IsFilled : World → Type 0
IsFilled s = (p : ℕ) → p < length s.layout.masks → cell_at s p ≢ None

-- the cells of masks
abbrev pub all_cells : ℕ → List Function → List Pair → LowerBound → ℕ → List ℕ → List (Option (ℕ × ℕ))
all_cells n F P r bound masks = map (λ mask. Some (cell_of n F P r bound mask)) masks
