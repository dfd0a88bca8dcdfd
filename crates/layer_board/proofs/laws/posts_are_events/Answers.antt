use Rattle.layer_board.proofs.BoardEvents.{post_event}
use Rattle.layer_board.proofs.laws.posts_are_events.Goals as goal

pub returns : goal.returns
returns c = λ b s id v slots p mask new cell m k at place mine stands ended. post_event b s k id v at p mask place slots new cell m mine stands ended
