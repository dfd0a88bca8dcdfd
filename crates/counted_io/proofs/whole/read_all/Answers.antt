use Rattle.std.proofs.Common.{rules}
use Rattle.counted_io.proofs.whole.read_all.Goals as goal

pub returns-in-Err : goal.returns-in-Err
returns-in-Err g c = search rules
