-- Some of the 256 bytes, as the bits of four words.
--     HasByte words h      a byte is among them
use Rattle.std.specs.Prelude.{◌≡◌, ℕ, ◌/◌, ◌%◌, List, slice_index}
use Rattle.std.specs.Int.{bit_at}

-- a byte is among them
abbrev pub HasByte : List ℕ → ℕ → Type 0
HasByte words h = bit_at (slice_index words (h / 64)) (h % 64) ≡ 1
