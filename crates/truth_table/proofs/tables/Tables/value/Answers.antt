use Rattle.std.proofs.Common.{rules}
use Rattle.truth_table.proofs.tables.Tables.value.Goals as goal

pub returns : goal.returns
returns c = search rules
