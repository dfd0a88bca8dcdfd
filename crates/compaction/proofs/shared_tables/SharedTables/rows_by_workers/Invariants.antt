use Rattle.std.proofs.Common.{All, IfOk, vec_len}
use Rattle.compaction.specs.Rows.{HoldsRows}
use Rattle.compaction.proofs.shared_tables.SharedTables.rows_by_workers.Given as goal

abbrev pub invariant-loop-part : goal.invariant-loop-part
invariant-loop-part g l = record {
  parts : All (λ r. IfOk r (λ v. All (HoldsRows l.self) v.items)) l.parts.items;
  found : All (HoldsRows l.self) l.found.items;
}

abbrev pub decreases-loop-part : goal.decreases-loop-part
decreases-loop-part g l = vec_len l.parts
