use Rattle.std.proofs.Common.{refl}
use Rattle.node_words.specs.Nodes.{home, mixed}
use Rattle.node_words.proofs.words.start.Goals as goal

pub returns-clause-is : goal.returns-clause-is
unfolding home mixed
returns-clause-is c = refl
