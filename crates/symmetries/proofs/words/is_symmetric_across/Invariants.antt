use Rattle.std.proofs.Common.{◌≡◌, ℕ, ◌+◌, ◌-◌, ◌^◌, ◌<◌, slice_index}
use Rattle.std.specs.Int.{bit_at}
use Rattle.symmetries.proofs.words.is_symmetric_across.Given as goal

abbrev pub invariant-loop-i : goal.invariant-loop-i
invariant-loop-i l = (i k : ℕ) → i < l.i → bit_at i l.s ≡ 0 → k < 64 → bit_at k l.a ≡ 1 →
    bit_at (slice_index l.words i) k ≡ bit_at (slice_index l.words (i + 2 ^ l.s)) (k - 2 ^ l.a)
