use Rattle.layer_board.proofs.ClosedBoards.{lacking}
use Rattle.layer_board.proofs.laws.seats_lack_what_is_empty.Goals as goal

pub returns : goal.returns
returns c = lacking
