-- All orders that keep the pairs, and how many of them have each size.
--     all_orders n P      the orders of n variables that keep the pairs
--     orders_of_size n F P s, size_total n F P, most n F P      how many of them have size s; the sum of their sizes; the greatest of their sizes
--     lawful_lists P S      the lists of S's members, each once, whose bottom parts are all lawful
--     ways n F P S c, cost_total n F P S, most_cost n F P S      how many of these lists have cost c; the sum of their costs; the greatest of their costs
--     ways_with_top, cost_total_with_top, most_cost_with_top      what a member x on top adds to these if S is lawful, by the lists of the others
--     width_in n F mask x      the width of a member x of a mask over the others, 0 if x is no member
--     AreWidthsIn n F mask row, AreAllWidths n F rows      these, at each x; for each mask of n variables
--     factorial k      1 * 2 * .. * k
use Rattle.std.specs.Prelude.{◌≡◌, ℕ, zero, suc, ◌+◌, ◌*◌, ◌-◌, ◌^◌, ◌<◌, max, if◌then◌else◌, List, [], length, map, nat_eq, nat_le, get_or, slice_index}
use Rattle.std.specs.List.{filter, fold, sum_by, count_by}
use Rattle.definitions.specs.Functions.{Function}
use Rattle.definitions.specs.Orders.{has, members, variables, without}
use Rattle.definitions.specs.Pairs.{Pair, keeps, are_lawful}
use Rattle.definitions.specs.Levels.{size_under}
use Rattle.definitions.specs.Widths.{width, cost, arrangements}

-- the orders of n variables that keep the pairs
unfoldable pub all_orders : ℕ → List Pair → List (List ℕ)
all_orders n P = filter (keeps P) (arrangements n (variables n))

-- how many of them have size s
unfoldable pub orders_of_size : ℕ → List Function → List Pair → ℕ → ℕ
orders_of_size n F P s = count_by (λ order. nat_eq (size_under n F order) s) (all_orders n P)

-- the sum of their sizes
unfoldable pub size_total : ℕ → List Function → List Pair → ℕ
size_total n F P = sum_by (size_under n F) (all_orders n P)

-- the greatest of some numbers, or 0 if there are none
unfoldable pub most_of : List ℕ → ℕ
most_of cs = fold max 0 cs

-- the greatest of their sizes
unfoldable pub most : ℕ → List Function → List Pair → ℕ
most n F P = most_of (map (size_under n F) (all_orders n P))

-- the lists of S's members, each once, whose bottom parts are all lawful
unfoldable pub lawful_lists : List Pair → List ℕ → List (List ℕ)
lawful_lists P S = filter (are_lawful P) (arrangements (length S) S)

-- how many of these lists have cost c
unfoldable pub ways : ℕ → List Function → List Pair → List ℕ → ℕ → ℕ
ways n F P S c = count_by (λ xs. nat_eq (cost n F xs) c) (lawful_lists P S)

-- the sum of their costs
unfoldable pub cost_total : ℕ → List Function → List Pair → List ℕ → ℕ
cost_total n F P S = sum_by (cost n F) (lawful_lists P S)

-- the greatest of their costs
unfoldable pub most_cost : ℕ → List Function → List Pair → List ℕ → ℕ
most_cost n F P S = most_of (map (cost n F) (lawful_lists P S))

-- with width w on top of T: how many lists of T have cost c - w, or none if c is less than w
abbrev pub ways_above : ℕ → List Function → List Pair → List ℕ → ℕ → ℕ → ℕ
ways_above n F P T w c = if nat_le w c then ways n F P T (c - w) else 0

-- what a member x on top adds to these if S is lawful: how many lists with cost c
abbrev pub ways_with_top : ℕ → List Function → List Pair → List ℕ → ℕ → ℕ → ℕ
ways_with_top n F P S c x = ways_above n F P (without x S) (width n F (without x S) x) c

-- the sum of their costs
abbrev pub cost_total_with_top : ℕ → List Function → List Pair → List ℕ → ℕ → ℕ
cost_total_with_top n F P S x =
    cost_total n F P (without x S) + width n F (without x S) x * length (lawful_lists P (without x S))

-- the greatest of their costs
abbrev pub most_cost_with_top : ℕ → List Function → List Pair → List ℕ → ℕ → ℕ
most_cost_with_top n F P S x = most_cost n F P (without x S) + width n F (without x S) x

-- the width of a member x of a mask over the others, 0 if x is no member
unfoldable pub width_in : ℕ → List Function → ℕ → ℕ → ℕ
width_in n F mask x = if has (members n mask) x then width n F (without x (members n mask)) x else 0

-- these widths, at each x
abbrev pub AreWidthsIn : ℕ → List Function → ℕ → List ℕ → Type 0
AreWidthsIn n F mask row = (x : ℕ) → x < 16 → slice_index row x ≡ width_in n F mask x

-- a row of them for each mask of n variables
pub record AreAllWidths (n : ℕ) (F : List Function) (rows : List (List ℕ)) : Type 0 where
  pub each : length rows ≡ 2 ^ n
  pub are : (mask : ℕ) → mask < 2 ^ n → AreWidthsIn n F mask (get_or rows mask [])

-- 1 * 2 * .. * k
unfoldable pub factorial : ℕ → ℕ
factorial zero = 1
factorial (suc k) = suc k * factorial k
