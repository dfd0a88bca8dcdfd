use Rattle.std.proofs.Common.{◌≡◌, ℕ, ◌+◌, ◌-◌, ◌^◌, ◌<◌, slice_index}
use Rattle.std.specs.Int.{bit_at}
use Rattle.symmetries.proofs.words.is_symmetric_between.Given as goal

abbrev pub invariant-loop-i : goal.invariant-loop-i
invariant-loop-i l = (i : ℕ) → i < l.i → bit_at i l.r ≡ 1 → bit_at i l.s ≡ 0 → slice_index l.words i ≡ slice_index l.words ((i - 2 ^ l.r) + 2 ^ l.s)
