use Rattle.layer_board.proofs.ClosedBoards.{one_misses}
use Rattle.layer_board.proofs.laws.one_worker_misses_the_least.Goals as goal

pub returns : goal.returns
returns c = λ seat mask one missing. one_misses seat mask one missing
