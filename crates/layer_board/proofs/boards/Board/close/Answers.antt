use Rattle.layer_board.proofs.ClosedBoards.{lacking}
use Rattle.layer_board.proofs.boards.Board.close.Goals as goal

pub returns-in-Err-clause-unknown : goal.returns-in-Err-clause-unknown
returns-in-Err-clause-unknown c =
    lacking c.args.seat c.into_closed-closed.result c.in-Err.error c.into_closed-closed.ensures.last c.in-Err.ensures.lacks
