use Rattle.std.proofs.Common.{◌≡◌, ◌+◌, length}
use Rattle.small_search.proofs.tables.add_tables.Given as goal

abbrev pub invariant-loop-size : goal.invariant-loop-size
invariant-loop-size l = length l.classes.items ≡ length l.fn.classes.items + l._size
