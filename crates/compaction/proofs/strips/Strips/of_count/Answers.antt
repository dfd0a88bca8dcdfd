use Rattle.compaction.specs.Strips.{HoldsStripTable}
use Rattle.compaction.proofs.strips.Strips.of_count.Goals as goal

pub invariant_of-result-2 : goal.invariant_of-result-2
unfolding HoldsStripTable
invariant_of-result-2 c = c.requires
