use Rattle.std.proofs.Common.{rules}
use Rattle.counted_io.proofs.counters.CountingCountedWrite.write_some.Goals as goal

pub returns-else-failed-clause-counted : goal.returns-else-failed-clause-counted
returns-else-failed-clause-counted c = search rules
