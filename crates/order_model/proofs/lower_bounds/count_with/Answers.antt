use Rattle.std.proofs.Common.{arith, length-take}
use Rattle.definitions.proofs.Lists.Ranges.{filter_at_most}
use Rattle.std.proofs.lemmas.Grind.{common_steps}
use Rattle.order_model.proofs.lower_bounds.count_with.Goals as goal

pub overflow_add-count : goal.overflow_add-count
overflow_add-count c = grind (arith, filter_at_most, length-take)

pub loop-set-preserved : goal.loop-set-preserved
loop-set-preserved c = grind (arith, common_steps)
