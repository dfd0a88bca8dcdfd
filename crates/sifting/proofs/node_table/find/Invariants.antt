use Rattle.std.proofs.Common.{◌≢◌, ◌<◌, ◌≤◌, ℕ, length, get_or}
use Rattle.sifting.specs.Leveled.{at}
use Rattle.sifting.specs.NodeTables.{HasNumber}
use Rattle.sifting.proofs.node_table.find.Given as goal

abbrev pub invariant-loop-at : goal.invariant-loop-at
invariant-loop-at l =
    (t : ℕ) → l.home ≤ t → t < l.at → (k : ℕ) × HasNumber l.base (length l.nodes) (get_or l.slots t 0) k × (at l.nodes k ≢ l.node)
