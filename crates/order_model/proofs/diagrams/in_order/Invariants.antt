use Rattle.std.proofs.Common.{◌≡◌, ◌<◌, ◌≤◌, ℕ, get_or, length}
use Rattle.order_model.proofs.diagrams.in_order.Given as goal

abbrev pub invariant-loop-level : goal.invariant-loop-level
invariant-loop-level l = record {
  long : length l.levels ≡ 16;
  below : (i : ℕ) → i < l.level → get_or l.levels i 0 ≡ get_or l.counts (get_or l.order i 0) 0;
  above : (i : ℕ) → l.level ≤ i → get_or l.levels i 0 ≡ 0;
}
