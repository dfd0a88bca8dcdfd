use Rattle.std.proofs.Common.{arith}
use Rattle.definitions.proofs.Widths.Outside.{outside_count}
use Rattle.solutions.proofs.listed_sets.count_outside.Goals as goal

pub returns-clause-exact : goal.returns-clause-exact
returns-clause-exact c = λ n F e. outside_count n F c.args.essential c.args.mask (omega arith) (omega arith) e
