use Rattle.layer_board.proofs.BoardEvents.{claim_event}
use Rattle.layer_board.proofs.laws.claims_are_events.Goals as goal

pub returns : goal.returns
returns c = λ b s id v slots m k at untold ended. claim_event b s k id v at slots m untold ended
