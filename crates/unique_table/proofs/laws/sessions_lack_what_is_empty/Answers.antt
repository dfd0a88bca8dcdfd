use Rattle.unique_table.proofs.Roots.{lacking}
use Rattle.unique_table.proofs.laws.sessions_lack_what_is_empty.Goals as goal

pub returns : goal.returns
returns c = lacking
