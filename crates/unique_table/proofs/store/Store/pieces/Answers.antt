use Rattle.std.proofs.Common.{rules}
use Rattle.unique_table.proofs.store.Store.pieces.Goals as goal

pub returns-clause-value : goal.returns-clause-value
returns-clause-value c = search rules
