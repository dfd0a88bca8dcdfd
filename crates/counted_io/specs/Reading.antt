-- Why reading a device to its end is refused.
--     Refuses limit bytes before after fault      why no bytes are returned
use Rattle.std.specs.Prelude.{◌≡◌, ℕ, ◌<◌, List, length, Option, IfSome}
use Rattle.counted_io.specs.Counts.{one_more}
use Rattle.counted_io.specs.declared.whole.Refused.{Refused}
use Rattle.counted_io.specs.declared.whole.Refused.TheVariants.{TooLong, Device, OutOfMemory}

-- why no bytes are returned: it follows from the bytes that the device had, and from the number of failed calls before and after
abbrev pub Refuses : ℕ → Option (List ℕ) → ℕ → ℕ → Refused → Type 0
Refuses limit bytes before after TooLong = IfSome bytes (λ xs. limit < length xs) × (after ≡ before)
Refuses limit bytes before after Device = after ≡ one_more before
Refuses limit bytes before after OutOfMemory = after ≡ before
