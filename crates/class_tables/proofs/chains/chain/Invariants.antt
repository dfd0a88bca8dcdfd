use Rattle.std.proofs.Common.{ℕ, ◌+◌, ◌/◌, ◌^◌, ◌<◌, ◌≤◌, get_or, length}
use Rattle.class_tables.specs.Chains.{IsNext, lower_at}
use Rattle.class_tables.proofs.chains.chain.Given as goal

abbrev pub invariant-loop-j : goal.invariant-loop-j
invariant-loop-j l = record {
  small : l.j ≤ length l.entries.numbers / 2;
  heads : (c : ℕ) → c < length l.heads → IsNext (lower_at l.entries.numbers (2 ^ l.entries.rank)) (length l.entries.numbers / 2) c l.j (get_or l.heads c 0);
  next : (i : ℕ) → l.j ≤ i → i < length l.entries.numbers / 2 →
      IsNext (lower_at l.entries.numbers (2 ^ l.entries.rank)) (length l.entries.numbers / 2) (lower_at l.entries.numbers (2 ^ l.entries.rank) i)
      (i + 1) (get_or l.next i 0);
}

abbrev pub decreases-loop-j : goal.decreases-loop-j
decreases-loop-j l = l.j
