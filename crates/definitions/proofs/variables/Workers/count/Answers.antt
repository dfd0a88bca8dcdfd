use Rattle.std.proofs.Common.{rules}
use Rattle.definitions.proofs.variables.Workers.count.Goals as goal

pub returns-clause-value : goal.returns-clause-value
returns-clause-value c = search rules
