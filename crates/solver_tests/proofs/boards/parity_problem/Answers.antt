use Rattle.solver_tests.proofs.Parity.{packed}
use Rattle.solver_tests.proofs.boards.parity_problem.Goals as goal

pub from_words-requires : goal.from_words-requires
from_words-requires g c = packed c.words-words.result.items c.words-words.ensures
