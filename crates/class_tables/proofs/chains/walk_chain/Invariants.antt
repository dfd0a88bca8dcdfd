use Rattle.std.proofs.Common.{◌≡◌, ◌≢◌, ℕ, ◌-◌, ◌/◌, ◌^◌, get_or, length}
use Rattle.class_tables.specs.Chains.{lower_at}
use Rattle.class_tables.proofs.PairChains.{Walk}
use Rattle.class_tables.proofs.chains.walk_chain.Given as goal

abbrev pub invariant-loop-j : goal.invariant-loop-j
invariant-loop-j l = record {
  walk : Walk l.chains.entries.now.numbers (2 ^ l.chains.entries.now.rank) (length l.chains.entries.now.numbers / 2) l.lower l.stamps l.marks l.first l.j;
  others : (i : ℕ) → lower_at l.chains.entries.now.numbers (2 ^ l.chains.entries.now.rank) i ≢ l.lower → get_or l.first i 0 ≡ get_or l.fn.first i 0;
}

abbrev pub decreases-loop-j : goal.decreases-loop-j
decreases-loop-j l = length l.chains.entries.now.numbers / 2 - l.j
