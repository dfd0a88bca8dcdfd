-- How many calls of a device have failed.
--     one_more failed      the count after one more failed call
use Rattle.std.specs.Prelude.{ℕ, ◌+◌, ◌-◌, ◌^◌, min}

-- the count after one more failed call, which stays at the greatest value of a u64
abbrev pub one_more : ℕ → ℕ
one_more failed = min (failed + 1) (2 ^ 64 - 1)
