use Rattle.std.proofs.Common.{◌-◌}
use Rattle.dd_builder.proofs.tables.+output_below.Given as goal

abbrev pub decreases-output_below : goal.decreases-output_below
decreases-output_below l = 17 - l.path.level
