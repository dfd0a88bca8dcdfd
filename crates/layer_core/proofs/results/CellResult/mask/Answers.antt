use Rattle.std.proofs.Common.{rules}
use Rattle.layer_core.proofs.results.CellResult.mask.Goals as goal

pub returns : goal.returns
returns c = search rules
