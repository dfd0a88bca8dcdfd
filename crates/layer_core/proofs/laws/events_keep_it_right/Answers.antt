use Rattle.layer_core.specs.Rights.{IsCellFor}
use Rattle.layer_core.proofs.Runs.{right_after}
use Rattle.layer_core.proofs.laws.events_keep_it_right.Goals as goal

pub returns : goal.returns
returns c = λ n F P r bound l workers events laid posts. right_after (IsCellFor n F P r bound) l workers events laid posts
