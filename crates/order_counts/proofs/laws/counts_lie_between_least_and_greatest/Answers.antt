use Rattle.definitions.proofs.Widths.SizeCounts.{no_ways_above, no_ways_below}
use Rattle.order_counts.proofs.laws.counts_lie_between_least_and_greatest.Goals as goal

pub returns-clause-below : goal.returns-clause-below
returns-clause-below c = no_ways_below

pub returns-clause-above : goal.returns-clause-above
returns-clause-above c = no_ways_above
