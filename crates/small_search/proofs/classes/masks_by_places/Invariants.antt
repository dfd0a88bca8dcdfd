use Rattle.std.proofs.Common.{◌≡◌, ℕ, ◌+◌, ◌-◌, ◌^◌, ◌<◌, ◌≤◌, length, get_or, bit_or}
use Rattle.definitions.specs.Orders.{members}
use Rattle.small_search.specs.Values.{mask_at}
use Rattle.small_search.proofs.classes.masks_by_places.Given as goal

abbrev pub invariant-loop-i : goal.invariant-loop-i
invariant-loop-i l = record {
  left : l.i + length (members 16 l.rest) ≡ 4;
  long : length l.masks ≡ 16;
  each : (q : ℕ) → q < 16 → bit_or (get_or l.masks q 0) (mask_at (members 16 l.rest) q) ≡ mask_at (members 16 l.set) q;
}

abbrev pub invariant-loop-q : goal.invariant-loop-q
invariant-loop-q l = record {
  long : length l.masks ≡ 16;
  done : (q : ℕ) → q < l.q → bit_or (get_or l.masks q 0) (mask_at (members 16 (l.rest - 2 ^ l.x)) q) ≡ mask_at (members 16 l.set) q;
  ahead : (q : ℕ) → l.q ≤ q → q < 16 → bit_or (get_or l.masks q 0) (mask_at (members 16 l.rest) q) ≡ mask_at (members 16 l.set) q;
}
