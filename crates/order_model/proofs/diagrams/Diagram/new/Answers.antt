use Rattle.std.proofs.Common.{rules}
use Rattle.order_model.proofs.diagrams.Diagram.new.Goals as goal

pub returns-clause-roots : goal.returns-clause-roots
returns-clause-roots c = search rules
