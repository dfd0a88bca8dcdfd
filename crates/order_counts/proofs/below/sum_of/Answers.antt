use Rattle.std.proofs.Common.{rules}
use Rattle.std.proofs.iter.runs.Sources.{sums}
use Rattle.order_counts.proofs.below.sum_of.Goals as goal

pub sum-requires-clause-fits : goal.sum-requires-clause-fits
sum-requires-clause-fits c = search (rules, sums)
