use Rattle.std.proofs.Common.{rules}
use Rattle.counted_io.proofs.counters.Counting.new.Goals as goal

pub returns-clause-failed : goal.returns-clause-failed
returns-clause-failed g c = search rules
