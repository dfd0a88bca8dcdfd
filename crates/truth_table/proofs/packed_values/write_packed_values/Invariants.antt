use Rattle.std.proofs.Common.{◌≡◌, ◌*◌, ◌^◌, length, take}
use Rattle.definitions.specs.Problems.{packed_tables}
use Rattle.truth_table.specs.Assignments.{assignments, values_at}
use Rattle.truth_table.proofs.packed_values.write_packed_values.Given as goal

abbrev pub invariant-loop-output : goal.invariant-loop-output
invariant-loop-output l = record {
  long : length l.others ≡ l.last * 2 ^ l.n;
  done : take (l.output * 2 ^ l.n) l.others ≡ values_at (assignments l.order) (take l.output (packed_tables l.n l.m l.words).tables);
}
