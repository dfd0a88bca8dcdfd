use Rattle.std.proofs.Common.{rules}
use Rattle.order_model.proofs.crew.Crew.new.Goals as goal

pub returns-clause-workers : goal.returns-clause-workers
returns-clause-workers g c = search rules
