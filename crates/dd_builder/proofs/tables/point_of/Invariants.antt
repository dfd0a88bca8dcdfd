use Rattle.dd_builder.specs.Paths.{IsPointAbove}
use Rattle.dd_builder.proofs.tables.point_of.Given as goal

abbrev pub invariant-loop-level : goal.invariant-loop-level
invariant-loop-level l = IsPointAbove l.order l.level l.path l.point
