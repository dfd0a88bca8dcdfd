use Rattle.std.proofs.Common.{◌≡◌, ℕ, ◌+◌, ◌-◌, ◌^◌, ◌<◌, slice_index}
use Rattle.std.specs.Int.{bit_at}
use Rattle.symmetries.proofs.words.is_symmetric_inside.Given as goal

abbrev pub invariant-loop-word : goal.invariant-loop-word
invariant-loop-word l = (i k : ℕ) → i < l.word-index → k < 64 → bit_at k l.a ≡ 1 → bit_at k l.b ≡ 0 →
    bit_at (slice_index l.words i) k ≡ bit_at (slice_index l.words i) ((k - 2 ^ l.a) + 2 ^ l.b)
