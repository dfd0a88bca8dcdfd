use Rattle.std.proofs.Common.{rules}
use Rattle.node_words.proofs.words.node_parts.Goals as goal

pub returns-clause-high : goal.returns-clause-high
returns-clause-high c = search rules
