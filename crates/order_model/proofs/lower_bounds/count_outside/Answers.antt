use Rattle.std.proofs.Common.{◌∙◌, arith}
use Rattle.definitions.proofs.Widths.Outside.{outside_count}
use Rattle.order_model.proofs.lower_bounds.count_outside.Goals as goal

pub returns-clause-exact : goal.returns-clause-exact
returns-clause-exact c = λ n F e. c.from.ensures ∙ outside_count n F c.args.set c.args.mask (omega arith) (omega arith) e
