use Rattle.std.proofs.Common.{rules}
use Rattle.order_model.proofs.diagrams.Diagram.size.Goals as goal

pub returns : goal.returns
returns c = search rules
