-- Why a post or a close is refused.
use Rattle.std.specs.Prelude.{◌≡◌, ℕ, true, false}
use Rattle.layer_board.specs.declared.boards.PostRefused.{PostRefused}
use Rattle.layer_board.specs.declared.boards.PostRefused.TheVariants.{Stranger, Double}
use Rattle.layer_board.specs.declared.closed.CloseError.{CloseError}
use Rattle.layer_board.specs.declared.closed.CloseError.TheVariants.{Missing, OutOfMemory}
use Rattle.layer_board.specs.Views.{ClosedBoardOf, SeatOf, stepped, has_claimed, knows_filled}
use Rattle.layer_board.specs.Closing.{IsLeastEmptyMask, IsFinalBoard, IsMissingMask}

-- why a post for a mask is refused: the seat did not claim the mask's block, and is unchanged; or the cell was filled, and the seat made a step
abbrev pub RefusesPost : SeatOf → ℕ → SeatOf → PostRefused → Type 0
RefusesPost s mask s' Stranger = (has_claimed s mask ≡ false) × (s' ≡ s)
RefusesPost s mask s' Double = (has_claimed s mask ≡ true) × (knows_filled s mask ≡ true) × (s' ≡ stepped s s.worker 0)

-- why a close with a seat is refused: the least mask whose cell is empty, which the seat didn't know to be filled, or out of memory
abbrev pub LacksMask : SeatOf → CloseError → Type 0
LacksMask s (Missing mask) = IsMissingMask s mask
LacksMask s OutOfMemory = Unit {0}

-- why a closed board gives no cells: the least mask whose cell is empty, or out of memory
abbrev pub LacksCell : ClosedBoardOf → CloseError → Type 0
LacksCell c (Missing mask) = IsLeastEmptyMask c mask
LacksCell c OutOfMemory = Unit {0}

-- the least mask whose cell the last cells lack is missing to the seat
abbrev pub SeatsLackWhatIsEmpty : Type 0
SeatsLackWhatIsEmpty = (seat : SeatOf) (c : ClosedBoardOf) (error : CloseError) → IsFinalBoard seat c → LacksCell c error → LacksMask seat error
