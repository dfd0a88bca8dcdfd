use Rattle.std.proofs.Common.{◌≡◌, map, take}
use Rattle.subfunction_classes.specs.Table.{with_variable}
use Rattle.compaction.proofs.shared_tables.with_low.Given as goal

abbrev pub invariant-loop-table : goal.invariant-loop-table
invariant-loop-table l = l.larger.items ≡ map (λ t. with_variable t l.x) (take l.table-index l.tables)
