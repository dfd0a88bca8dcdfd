use Rattle.std.proofs.Common.{◌-◌}
use Rattle.dd_builder.proofs.roots.+of_restrictions.Given as goal

abbrev pub decreases-of_restrictions : goal.decreases-of_restrictions
decreases-of_restrictions l = 3 - l.level
