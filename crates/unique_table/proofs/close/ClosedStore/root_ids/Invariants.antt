use Rattle.std.proofs.Common.{◌≡◌, map}
use Rattle.std.specs.List.{range_with_len}
use Rattle.unique_table.specs.Closing.{root_id, AreFilled}
use Rattle.unique_table.proofs.close.ClosedStore.root_ids.Given as goal

abbrev pub invariant-loop-output : goal.invariant-loop-output
invariant-loop-output l = record {
  ids : l.ids.items ≡ map (root_id l.self) (range_with_len 0 l.output);
  filled : AreFilled l.self l.output;
}
