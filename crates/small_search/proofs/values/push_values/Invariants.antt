use Rattle.std.proofs.Common.{◌≡◌, ◌++◌, map, get_or, false}
use Rattle.std.specs.List.{range_with_len}
use Rattle.definitions.specs.Functions.{weight}
use Rattle.definitions.specs.Problems.{table_in}
use Rattle.small_search.proofs.values.push_values.Given as goal

abbrev pub invariant-loop-point : goal.invariant-loop-point
invariant-loop-point l =
    l.values.items ≡ l.initial.values.items ++ map weight (map (λ j. get_or (table_in l.inputs l.words) j false) (range_with_len 0 l.point))
