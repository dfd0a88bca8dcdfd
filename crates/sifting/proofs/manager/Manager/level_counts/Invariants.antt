use Rattle.std.proofs.Common.{◌≡◌, ◌≤◌, ◌<◌, ℕ, get_or, map, length}
use Rattle.sifting.specs.declared.levels.Level.{Level}
use Rattle.sifting.proofs.manager.Manager.level_counts.Given as goal

abbrev pub invariant-loop-place : goal.invariant-loop-place
invariant-loop-place l = record {
  long : length l.counts ≡ 16;
  counted : (k : ℕ) → k < l.place → get_or l.counts k 0 ≡ get_or (map (λ (v : Level). v.count) l.level-items) k 0;
  others : (k : ℕ) → l.place ≤ k → get_or l.counts k 0 ≡ 0;
}
