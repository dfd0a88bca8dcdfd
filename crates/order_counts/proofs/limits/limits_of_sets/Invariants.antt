use Rattle.definitions.specs.Problems.{functions}
use Rattle.order_counts.proofs.LimitsFrom.{AreLimitsFrom}
use Rattle.order_counts.proofs.limits.limits_of_sets.Given as goal

abbrev pub invariant-loop-place : goal.invariant-loop-place
invariant-loop-place l = AreLimitsFrom l.pairs.inputs (functions l.problem) l.limit l.place l.limits.items
