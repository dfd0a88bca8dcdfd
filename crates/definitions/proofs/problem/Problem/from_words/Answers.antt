use Rattle.std.proofs.Common.{rules}
use Rattle.definitions.proofs.problem.Problem.from_words.Goals as goal

pub returns : goal.returns
returns c = search rules
