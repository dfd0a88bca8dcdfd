use Rattle.layer_board.proofs.BoardEvents.{read_event}
use Rattle.layer_board.proofs.laws.reads_are_events.Goals as goal

pub returns : goal.returns
returns c = λ b s id v slots p mask m k at place ended. read_event b s k id v at p mask place slots m ended
