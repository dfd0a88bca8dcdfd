-- Where the values of a path stand: one size behind the other, from no variable on, each with half as many as the one before.
--     start_of entries size, values_at entries values size      where the values over `size` variables begin; these values
use Rattle.std.specs.Prelude.{ℕ, zero, suc, ◌+◌, ◌/◌, ◌^◌, List, drop, take}

unfoldable pub start_of : ℕ → ℕ → ℕ
start_of entries zero = 0
start_of entries (suc size) = start_of entries size + entries / 2 ^ size

abbrev pub values_at : ℕ → List ℕ → ℕ → List ℕ
values_at entries values size = take (entries / 2 ^ size) (drop (start_of entries size) values)
