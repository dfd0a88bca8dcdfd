use Rattle.std.proofs.Common.{ℕ, ◌/◌, ◌^◌, ◌<◌, ◌≤◌, get_or, length}
use Rattle.subfunction_classes.specs.Numbering.{IsFirstOccurrence}
use Rattle.class_tables.specs.Chains.{lower_at}
use Rattle.subfunction_classes.specs.Places.{pair_at}
use Rattle.class_tables.proofs.chains.first_occurrences.Given as goal

abbrev pub invariant-loop-lower : goal.invariant-loop-lower
invariant-loop-lower l = record {
  stamps : (h : ℕ) → h < length l.stamps → get_or l.stamps h 0 ≤ l.lower;
  done : (j : ℕ) → j < length l.chains.entries.now.numbers / 2 → lower_at l.chains.entries.now.numbers (2 ^ l.chains.entries.now.rank) j < l.lower →
      IsFirstOccurrence (pair_at l.chains.entries.now.numbers (2 ^ l.chains.entries.now.rank)) j (get_or l.first j 0);
}
