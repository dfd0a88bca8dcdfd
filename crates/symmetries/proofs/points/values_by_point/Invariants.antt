use Rattle.symmetries.proofs.PointValues.{TellTo}
use Rattle.symmetries.proofs.points.values_by_point.Given as goal

abbrev pub invariant-loop-output : goal.invariant-loop-output
invariant-loop-output l = TellTo l.problem l.output l.values.items
