use Rattle.std.proofs.Common.{◌≡◌, length}
use Rattle.definitions.specs.Functions.{from_table, table}
use Rattle.definitions.specs.Orders.{members}
use Rattle.definitions.specs.Problems.{IsClean, table_at, table_in, words_per_table}
use Rattle.truth_table.specs.Restrictions.{fixed}
use Rattle.truth_table.proofs.tables.Tables.cofactor.Given as goal

abbrev pub invariant-loop-x : goal.invariant-loop-x
invariant-loop-x l = record {
  table : table_in l.n l.words.items ≡ table l.n (fixed (members l.x l.care) l.value (from_table (table_at l.self l.output)));
  long : length l.words.items ≡ words_per_table l.n;
  clean : IsClean l.n l.words.items;
}
