-- Class tables of one size after the other.
--     IsReadyAt classes i x      the entries of table i are paired by x, and it has at most 2^20 classes
--     IsNumberedFrom old new i x      table i + 1 of `new` has the numbers and masks of the pairs of table i of `old`; the others stay
use Rattle.std.specs.Prelude.{◌≡◌, ◌≢◌, ℕ, ◌+◌, ◌^◌, ◌≤◌, List, length, slice_index_or}
use Rattle.pair_numbering.specs.declared.numbers.MaskedNumbers.{MaskedNumbers}
use Rattle.subfunction_classes.specs.PairTables.{IsPairTable, NumbersPairs}
use Rattle.subfunction_classes.specs.Places.{pairs}

pub record IsReady (table : MaskedNumbers) (x : ℕ) : Type 0 where
  pub table_is : IsPairTable table.numbers.items x (length table.masks.items)
  pub few : length table.masks.items ≤ 2 ^ 20

abbrev pub IsReadyAt : List MaskedNumbers → ℕ → ℕ → Type 0
IsReadyAt classes i x = (d : MaskedNumbers) → IsReady (slice_index_or classes i d) x

abbrev pub IsNumbered : MaskedNumbers → MaskedNumbers → ℕ → Type 0
IsNumbered old new x = NumbersPairs old.masks.items x (pairs old.numbers.items (2 ^ x)) new.numbers.items new.masks.items

pub record IsNumberedFrom (old new : List MaskedNumbers) (i x : ℕ) : Type 0 where
  pub numbered : (d : MaskedNumbers) → IsNumbered (slice_index_or old i d) (slice_index_or new (i + 1) d) x
  pub others : (j : ℕ) (d : MaskedNumbers) → j ≢ i + 1 → slice_index_or new j d ≡ slice_index_or old j d
  pub long : length new ≡ length old
