use Rattle.std.proofs.Common.{rules}
use Rattle.layer_core.proofs.results.CellResult.cell.Goals as goal

pub returns-clause-value : goal.returns-clause-value
returns-clause-value c = search rules
