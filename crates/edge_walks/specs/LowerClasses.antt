-- Lower classes of pairs, which give lower bounds on the widths after adding one variable.
--     pairs_with masks x y ps      how many distinct pairs have y in their masks
--     AreLowerMasks masks x ps labels      each variable in a class's entry of `labels` is in the mask of a pair whose lower class it is
--     IsWide t needed      the width of each variable of a table's set, over the set without it, is at least what is needed
use Rattle.std.specs.Prelude.{◌≡◌, ◌==◌, ◌<◌, ◌≤◌, ℕ, true, List, length, get_or, slice_index}
use Rattle.std.specs.Int.{bit_at}
use Rattle.std.specs.List.{filter}
use Rattle.std.specs.Set.{distinct_count}
use Rattle.definitions.specs.Orders.{has, without}
use Rattle.definitions.specs.Widths.{same_pair, width}
use Rattle.subfunction_classes.specs.Dependence.{joined_mask}
use Rattle.subfunction_classes.specs.Table.{functions_of, set_of}
use Rattle.edge_walks.specs.Tables.{TableOf, classes_at}

-- how many distinct pairs have y in their masks
unfoldable pub pairs_with : List ℕ → ℕ → ℕ → List (ℕ × ℕ) → ℕ
pairs_with masks x y ps = distinct_count same_pair (filter (λ p. bit_at (joined_mask masks x p) y == 1) ps)

-- each variable in a class's entry of `labels` is in the mask of a pair whose lower class it is
abbrev pub AreLowerMasks : List ℕ → ℕ → List (ℕ × ℕ) → List ℕ → Type 0
AreLowerMasks masks x ps labels = (c y : ℕ) → bit_at (slice_index labels c) y ≡ 1 →
    (j : ℕ) × (j < length ps) × ((get_or ps j (0, 0)).0 ≡ c) × (bit_at (joined_mask masks x (get_or ps j (0, 0))) y ≡ 1)

-- the width of each variable of a table's set, over the set without it, is at least what is needed
abbrev pub IsWide : TableOf → List ℕ → Type 0
IsWide t needed = (y : ℕ) → has (set_of (classes_at t)) y ≡ true →
    slice_index needed y ≤ width t.problem.inputs (functions_of (classes_at t)) (without y (set_of (classes_at t))) y
