-- Pairs of entries that stand side by side, and numbers that distinguish pairs.
--     pair_at cs j, pairs_of cs      entries 2j and 2j+1; all pairs
--     is_unequal p      whether the parts of a pair differ
--     IsNumbering ps ns      two places have equal numbers if and only if they have equal pairs
use Rattle.std.specs.Prelude.{◌≡◌, ◌↔◌, ℕ, ◌+◌, ◌*◌, ◌/◌, ◌<◌, Bool, not, List, map, length, slice_index, get_or, nat_eq}
use Rattle.std.specs.List.{range_with_len, filter}
use Rattle.std.specs.Set.{distinct_count}
use Rattle.definitions.specs.Widths.{same_pair}

-- the entries 2j and 2j + 1
abbrev pub pair_at : List ℕ → ℕ → ℕ × ℕ
pair_at cs j = (slice_index cs (2 * j), slice_index cs (2 * j + 1))

-- all pairs of entries that stand side by side
unfoldable pub pairs_of : List ℕ → List (ℕ × ℕ)
pairs_of cs = map (pair_at cs) (range_with_len 0 (length cs / 2))

-- whether the parts of a pair differ
abbrev pub is_unequal : ℕ × ℕ → Bool
is_unequal p = not (nat_eq p.0 p.1)

-- how many distinct pairs with unequal parts there are
unfoldable pub unequal_count : List (ℕ × ℕ) → ℕ
unequal_count ps = distinct_count same_pair (filter is_unequal ps)

-- two places have equal numbers if and only if they have equal pairs
pub record IsNumbering (ps : List (ℕ × ℕ)) (ns : List ℕ) : Type 0 where
  pub long : length ns ≡ length ps
  pub apart : (j k : ℕ) → j < length ps → k < length ps →
      (slice_index ns j ≡ slice_index ns k) ↔ (get_or ps j (0, 0) ≡ get_or ps k (0, 0))
