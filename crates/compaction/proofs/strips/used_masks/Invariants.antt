use Rattle.std.proofs.Common.{◌≡◌, ◌<◌, ℕ, false, map, get_or, take, length}
use Rattle.std.specs.List.{filter, range_with_len}
use Rattle.definitions.specs.Orders.{has}
use Rattle.compaction.proofs.strips.used_masks.Given as goal

abbrev pub invariant-loop-number : goal.invariant-loop-number
invariant-loop-number l =
    record {
      long : length l.used.items ≡ length l.masks;
      labels : (k : ℕ) → k < length l.masks →
          get_or l.used.items k false ≡ has (take l.number-index l.numbers) k;
    }

abbrev pub invariant-loop-k : goal.invariant-loop-k
invariant-loop-k l = l.found.items ≡ map (λ k. get_or l.masks k 0) (filter (λ k. get_or l.occurs-items k false) (range_with_len 0 l.k))
