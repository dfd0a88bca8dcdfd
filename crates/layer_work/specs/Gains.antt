-- What a seat, a worker's view of a board, gains by claims and posts.
--     gained s s'      the sets of a layer that a seat claimed from s to s'
--     StaysClaimed s s', IsPosted s mask      a seat after posts; a mask that was posted, if it was claimed
use Rattle.std.specs.Prelude.{◌≡◌, ℕ, Bool, not, ◌&&◌, List, IsTrue}
use Rattle.std.specs.List.{filter}
use Rattle.subset_layers.specs.Layers.{masks_of}
use Rattle.layer_board.specs.Views.{SeatOf, has_claimed, knows_filled}

-- whether the seat claimed the block of a mask from s to s'
abbrev pub gains : SeatOf → SeatOf → ℕ → Bool
gains s s' mask = has_claimed s' mask && not (has_claimed s mask)

-- the sets that the seat gained, rising
unfoldable pub gained : SeatOf → SeatOf → List ℕ
gained s s' = filter (gains s s') (masks_of s.board.brief.layer)

-- a seat's board and claims stay, and it knows no less
pub record StaysClaimed (s s' : SeatOf) : Type 0 where
  pub board : s'.board ≡ s.board
  pub claims : s'.worker.claims ≡ s.worker.claims
  pub known : (mask : ℕ) → IsTrue (knows_filled s mask) → IsTrue (knows_filled s' mask)

-- the seat knows the cell of a mask to be filled, if it claimed the mask's block
abbrev pub IsPosted : SeatOf → ℕ → Type 0
IsPosted s mask = IsTrue (has_claimed s mask) → IsTrue (knows_filled s mask)
