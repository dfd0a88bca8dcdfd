use Rattle.std.proofs.Common.{rules}
use Rattle.minorder_c.proofs.sift.minorder_sift_with_lengths.Goals as goal

pub returns-in-Err-clause-refused : goal.returns-in-Err-clause-refused
returns-in-Err-clause-refused c = search rules
