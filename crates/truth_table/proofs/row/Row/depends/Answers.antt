use Rattle.std.proofs.Common.{rules}
use Rattle.truth_table.proofs.row.Row.depends.Goals as goal

pub returns : goal.returns
returns c = search rules
