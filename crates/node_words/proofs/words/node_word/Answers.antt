use Rattle.std.proofs.Common.{rules}
use Rattle.node_words.proofs.words.node_word.Goals as goal

pub returns : goal.returns
returns c = search rules
