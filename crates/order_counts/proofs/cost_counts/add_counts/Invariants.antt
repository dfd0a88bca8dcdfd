use Rattle.std.proofs.Common.{◌≡◌, ℕ, ◌+◌, ◌<◌, ◌≤◌, get_or}
use Rattle.order_counts.proofs.cost_counts.add_counts.Given as goal

abbrev pub invariant-loop-i : goal.invariant-loop-i
invariant-loop-i l =
    ((j : ℕ) → j < l.i → get_or l.counts j 0 ≡ get_or l.initial.counts j 0 + get_or l.more j 0)
    × ((j : ℕ) → l.i ≤ j → get_or l.counts j 0 ≡ get_or l.initial.counts j 0)
