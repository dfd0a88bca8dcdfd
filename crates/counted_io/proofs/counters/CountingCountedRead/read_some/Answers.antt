use Rattle.std.proofs.Common.{rules}
use Rattle.counted_io.proofs.counters.CountingCountedRead.read_some.Goals as goal

pub returns-then-is_err-clause-counted : goal.returns-then-is_err-clause-counted
returns-then-is_err-clause-counted c = search rules
