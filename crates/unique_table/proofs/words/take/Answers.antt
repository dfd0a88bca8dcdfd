use Rattle.std.proofs.Common.{rules}
use Rattle.unique_table.proofs.words.take.Goals as goal

pub returns-then-seen-ne0-clause-found : goal.returns-then-seen-ne0-clause-found
returns-then-seen-ne0-clause-found c = search rules
