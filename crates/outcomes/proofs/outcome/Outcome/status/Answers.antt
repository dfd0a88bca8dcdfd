use Rattle.std.proofs.Common.{rules}
use Rattle.outcomes.proofs.outcome.Outcome.status.Goals as goal

pub returns-in-Refused-OutOfMemory : goal.returns-in-Refused-OutOfMemory
returns-in-Refused-OutOfMemory c = search rules
