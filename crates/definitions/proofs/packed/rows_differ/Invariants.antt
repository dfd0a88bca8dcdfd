use Rattle.std.proofs.Common.{◌≡◌, ◌<◌, ◌+◌, ◌^◌, ℕ, get_or, length}
use Rattle.std.specs.Int.{bit_at}
use Rattle.definitions.proofs.packed.rows_differ.Given as goal

abbrev pub invariant-loop-i : goal.invariant-loop-i
invariant-loop-i l = (j : ℕ) → j < l.i → j + 2 ^ l.r < length l.words → bit_at j l.r ≡ 0 → get_or l.words j 0 ≡ get_or l.words (j + 2 ^ l.r) 0
