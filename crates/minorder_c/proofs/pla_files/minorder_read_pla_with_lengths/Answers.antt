use Rattle.std.proofs.Common.{refl}
use Rattle.minorder_c.proofs.Statuses.{other}
use Rattle.minorder_c.proofs.pla_files.minorder_read_pla_with_lengths.Goals as goal

pub returns-else-tables-len-clause-short : goal.returns-else-tables-len-clause-short
returns-else-tables-len-clause-short c = other 0 7 refl

pub returns-then-tables-len-clause-read : goal.returns-then-tables-len-clause-read
returns-then-tables-len-clause-read c = other 7 0 refl
