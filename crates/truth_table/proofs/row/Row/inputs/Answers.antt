use Rattle.std.proofs.Common.{rules}
use Rattle.truth_table.proofs.row.Row.inputs.Goals as goal

pub returns-clause-value : goal.returns-clause-value
returns-clause-value c = search rules
