use Rattle.std.proofs.Common.{rules}
use Rattle.order_model.proofs.pairs.Pairs.copied.Goals as goal

pub returns : goal.returns
returns c = search rules
