use Rattle.std.proofs.Common.{◌≡◌, ◌*◌, map, length, take}
use Rattle.subfunction_classes.specs.Table.{with_variable}
use Rattle.compaction.proofs.shared_tables.with_low_by_threads.Given as goal

abbrev pub invariant-loop-part : goal.invariant-loop-part
invariant-loop-part g l = l.larger.items ≡ map (λ t. with_variable t l.fn.x) (take (length l.yielded * l.size) l.tables)
