use Rattle.subfunction_classes.specs.Table.{free_below}
use Rattle.compaction.proofs.high_walk.+walk.Given as goal

abbrev pub decreases-walk : goal.decreases-walk
decreases-walk l = free_below l.branch.now.decided l.table.now.problem.inputs
