use Rattle.std.proofs.Common.{All}
use Rattle.compaction.specs.Rows.{HoldsRows}
use Rattle.compaction.proofs.shared_tables.SharedTables.rows_by_turns.Given as goal

abbrev pub invariant-loop-turn : goal.invariant-loop-turn
invariant-loop-turn l = All (HoldsRows l.self) l.found.items
