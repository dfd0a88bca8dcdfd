-- Subfunctions, level counts and the size of an order (Friedman and Supowit 1990).
--     reach F xs      the functions got from F by restricting each variable of xs both ways
--     dependents n fs x      how many distinct functions among fs depend on x
--     level_count n F order i, size_under n F order      level counts, and their sum
use Rattle.std.specs.Prelude.{ℕ, true, false, List, [], ◌∷◌, ◌++◌, length, map, take, slice_index}
use Rattle.std.specs.List.{flat_map, filter, range_with_len, sum}
use Rattle.std.specs.Set.{distinct_count}
use Rattle.definitions.specs.Functions.{Function, restrict, table, same_table, depends}

-- f restricted by each of the variables both ways: all assignments in rising order, the first variable as the highest bit
unfoldable pub subfunctions : List ℕ → Function → List Function
subfunctions [] f = f ∷ []
subfunctions (x ∷ xs) f = subfunctions xs (restrict x false f) ++ subfunctions xs (restrict x true f)

-- the functions got from F by restricting each of the variables both ways
unfoldable pub reach : List Function → List ℕ → List Function
reach F xs = flat_map (subfunctions xs) F

-- how many distinct functions of n variables among fs depend on x
unfoldable pub dependents : ℕ → List Function → ℕ → ℕ
dependents n fs x = distinct_count same_table (map (table n) (filter (λ f. depends n f x) fs))

-- the count of level i: how many distinct functions, got by restricting the variables above, depend on the level's own
unfoldable pub level_count : ℕ → List Function → List ℕ → ℕ → ℕ
level_count n F order i = dependents n (reach F (take i order)) (slice_index order i)

-- the level counts, top first
unfoldable pub level_counts : ℕ → List Function → List ℕ → List ℕ
level_counts n F order = map (level_count n F order) (range_with_len 0 (length order))

-- the size of an order: the sum of its level counts
unfoldable pub size_under : ℕ → List Function → List ℕ → ℕ
size_under n F order = sum (level_counts n F order)
