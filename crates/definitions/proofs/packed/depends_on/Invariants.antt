use Rattle.std.proofs.Common.{◌≡◌, ◌<◌, ◌+◌, ◌^◌, ℕ, get_or}
use Rattle.std.specs.Int.{bit_at}
use Rattle.definitions.proofs.packed.depends_on.Given as goal

abbrev pub invariant-loop-word : goal.invariant-loop-word
invariant-loop-word l =
    (i b : ℕ) → i < l.word-index → b + 2 ^ l.x < 64 → bit_at b l.x ≡ 0 →
    bit_at (get_or l.words i 0) b ≡ bit_at (get_or l.words i 0) (b + 2 ^ l.x)
