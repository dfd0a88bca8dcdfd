use Rattle.std.proofs.Common.{◌≡◌, ℕ, ◌+◌, ◌*◌, length, map, take}
use Rattle.definitions.specs.Orders.{members}
use Rattle.small_search.specs.Values.{mask_at, places}
use Rattle.small_search.proofs.classes.write_masks.Given as goal

abbrev pub invariant-loop-k : goal.invariant-loop-k
invariant-loop-k l = record {
  long : length l.masks.items ≡ length l.pairs;
  done : take l.k l.masks.items ≡ map (λ (p : ℕ × ℕ). mask_at (members 16 l.set) (places 4 (p.0 + p.1 * 256))) (take l.k l.pairs);
}
