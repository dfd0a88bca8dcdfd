-- A row of widths, written one variable after another.
--     IsRowBelow f row k      the entries below k are those of f, and the others 0
--     row_written, row_kept, row_passed      one more variable; some more whose entries are 0
use Rattle.std.proofs.Common.{◌≡◌, ℕ, ◌+◌, ◌<◌, ◌≤◌, List, length, slice_index, set, get_or-set_same, get_or-set_other, arith}
use Rattle.std.proofs.lemmas.Bool.{cases_eq, cases_lt}
use Rattle.std.proofs.lemmas.List.{length-set}

abbrev pub IsRowBelow : (ℕ → ℕ) → List ℕ → ℕ → Type 0
IsRowBelow f row k = (length row ≡ 16) × ((x : ℕ) → x < k → slice_index row x ≡ f x) × ((x : ℕ) → k ≤ x → slice_index row x ≡ 0)

pub row_written : (f : ℕ → ℕ) (row : List ℕ) (k v : ℕ) → k < 16 → v ≡ f k → IsRowBelow f row k → IsRowBelow f (set row k v) (k + 1)
row_written f row k v lt e h = grind (arith, length-set, cases_eq, set, get_or-set_same, get_or-set_other)

pub row_kept : (f : ℕ → ℕ) (row : List ℕ) (k : ℕ) → 0 ≡ f k → IsRowBelow f row k → IsRowBelow f row (k + 1)
row_kept f row k e h = grind (arith, cases_eq, slice_index)

pub row_passed : (f : ℕ → ℕ) (row : List ℕ) (k m : ℕ) → k ≤ m → ((x : ℕ) → k ≤ x → x < m → 0 ≡ f x) → IsRowBelow f row k → IsRowBelow f row m
row_passed f row k m le none h = grind (arith, cases_lt)
