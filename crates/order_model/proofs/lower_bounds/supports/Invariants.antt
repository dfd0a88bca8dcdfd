use Rattle.std.proofs.Common.{◌≡◌, length, map, take}
use Rattle.definitions.specs.Functions.{from_table}
use Rattle.definitions.specs.LowerBounds.{support}
use Rattle.order_model.proofs.lower_bounds.supports.Given as goal

abbrev pub invariant-loop-output : goal.invariant-loop-output
invariant-loop-output l = record {
  long : length l.found ≡ 16;
  found : take l.output l.found ≡ map (λ t. support l.problem.inputs (from_table t)) (take l.output l.problem.tables);
}
