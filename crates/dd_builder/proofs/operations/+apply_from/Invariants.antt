use Rattle.std.proofs.Common.{◌-◌}
use Rattle.dd_builder.proofs.operations.+apply_from.Given as goal

abbrev pub decreases-apply_from : goal.decreases-apply_from
decreases-apply_from l = 17 - l.from
