use Rattle.std.proofs.Common.{rules}
use Rattle.unique_table.proofs.create.node_places.Goals as goal

pub returns : goal.returns
returns c = search rules
