use Rattle.std.proofs.Common.{◌≡◌, map, take}
use Rattle.std.specs.List.{flat_map}
use Rattle.definitions.specs.Functions.{weight}
use Rattle.subfunction_classes.specs.Values.{row}
use Rattle.small_search.proofs.values.push_points.Given as goal

abbrev pub invariant-loop-output : goal.invariant-loop-output
invariant-loop-output l = l.values.items ≡ map weight (flat_map (row l.search.problem.inputs) (take l.output l.search.problem.tables))
