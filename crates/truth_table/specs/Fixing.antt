-- Numbers with one bit fixed.
--     fixed_bit x b k      k with bit x made b
use Rattle.std.specs.Prelude.{ℕ, ◌+◌, ◌-◌, ◌*◌, ◌^◌, Bool, if◌then◌else◌}
use Rattle.std.specs.Int.{bit_at}

-- k with bit x made b
abbrev pub fixed_bit : ℕ → Bool → ℕ → ℕ
fixed_bit x b k = if b then k + (1 - bit_at k x) * 2 ^ x else k - bit_at k x * 2 ^ x
