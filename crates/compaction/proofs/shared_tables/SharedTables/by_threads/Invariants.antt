use Rattle.std.proofs.Common.{◌≡◌, ◌-◌}
use Rattle.compaction.specs.Strips.{AreKnownTables}
use Rattle.compaction.proofs.shared_tables.SharedTables.by_threads.Given as goal

abbrev pub invariant-loop-shared : goal.invariant-loop-shared
invariant-loop-shared g l =
    record {
      own : l.shared-inside.problem.now ≡ l.problem;
      tables : AreKnownTables l.problem l.shared-inside.tables.items l.shared-inside.known;
    }

abbrev pub decreases-loop-shared : goal.decreases-loop-shared
decreases-loop-shared g l = l.known - l.shared-inside.known
