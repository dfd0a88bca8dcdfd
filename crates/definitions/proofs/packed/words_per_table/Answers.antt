use Rattle.std.proofs.Common.{rules}
use Rattle.definitions.proofs.packed.words_per_table.Goals as goal

pub returns-clause-value : goal.returns-clause-value
returns-clause-value c = search rules
