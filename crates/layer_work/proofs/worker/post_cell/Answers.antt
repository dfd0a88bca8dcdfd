use Rattle.std.proofs.Common.{rules}
use Rattle.layer_work.proofs.worker.post_cell.Goals as goal

pub returns-clause-posted : goal.returns-clause-posted
returns-clause-posted c = search rules
