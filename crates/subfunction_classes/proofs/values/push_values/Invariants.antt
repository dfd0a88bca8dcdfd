use Rattle.std.proofs.Common.{◌≡◌, ◌++◌, map, get_or, false}
use Rattle.std.specs.List.{range_with_len}
use Rattle.definitions.specs.Problems.{table_in}
use Rattle.subfunction_classes.specs.Values.{number_of}
use Rattle.subfunction_classes.proofs.values.push_values.Given as goal

abbrev pub invariant-loop-point : goal.invariant-loop-point
invariant-loop-point l =
    l.numbers.items ≡ l.initial.numbers.items
    ++ map (number_of l.first) (map (λ j. get_or (table_in l.inputs l.words) j false) (range_with_len 0 l.point))
