use Rattle.std.proofs.Common.{◌≡◌, map, take}
use Rattle.std.specs.List.{flat_map}
use Rattle.definitions.specs.Problems.{value_at}
use Rattle.subfunction_classes.specs.Values.{number_of, row}
use Rattle.subfunction_classes.proofs.values.value_numbers.Given as goal

abbrev pub invariant-loop-output : goal.invariant-loop-output
invariant-loop-output l = l.numbers.items ≡ map (number_of (value_at l.problem 0 0)) (flat_map (row l.problem.inputs) (take l.output l.problem.tables))
