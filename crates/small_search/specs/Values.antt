-- Values: the truth tables of subfunctions as numbers (Bryant 1986 has a subfunction for each assignment of the other variables).
--     size_of S      how many values there are over S: 2 to the number of points
--     value_over n S g      the truth table of a function of S's variables, a bit for each point: the first variable of S stands for
--                           the highest bit of a point's number, the last one for the lowest
--     values n F S, set_values p set      the values of all subfunctions over a set, in the order of its class table
--     mask_over S v      the variables of S that the function with a value depends on, as a mask
--     mask_at S q      the variables of S at the places in q, the last one at place 0
--     places k v      the places that a value over k variables depends on: bit j stands for bit j of a point's number
use Rattle.std.specs.Prelude.{ℕ, zero, suc, ◌+◌, ◌*◌, ◌/◌, ◌%◌, ◌^◌, ◌==◌, List, [], ◌∷◌, if◌then◌else◌, bit_or, length, map, nat_eq, reverse, true, false}
use Rattle.std.specs.Int.{bit_at}
use Rattle.definitions.specs.Functions.{Function, point_of, restrict, weight}
use Rattle.definitions.specs.Levels.{reach}
use Rattle.definitions.specs.Orders.{members}
use Rattle.definitions.specs.Problems.{TruthTables, functions}
use Rattle.definitions.specs.Widths.{outside}

abbrev pub size_of : List ℕ → ℕ
size_of S = 2 ^ 2 ^ length S

-- the truth table where the first variable of S is 0, and above it that where it is 1
unfoldable pub value_over : ℕ → List ℕ → Function → ℕ
value_over n [] g = weight (g (point_of n 0))
value_over n (x ∷ S) g = value_over n S (restrict x false g) + value_over n S (restrict x true g) * size_of S

unfoldable pub values : ℕ → List Function → List ℕ → List ℕ
values n F S = map (value_over n S) (reach F (reverse (outside n S)))

abbrev pub set_values : TruthTables → ℕ → List ℕ
set_values p set = values p.inputs (functions p) (members p.inputs set)

-- what the halves depend on, and the first variable if they differ
unfoldable pub mask_over : List ℕ → ℕ → ℕ
mask_over [] v = 0
mask_over (x ∷ S) v =
    let low = v % size_of S in
    let high = v / size_of S in
    bit_or (bit_or (mask_over S low) (mask_over S high)) (if nat_eq low high then 0 else 2 ^ x)

unfoldable pub places : ℕ → ℕ → ℕ
places zero v = 0
places (suc k) v =
    let low = v % 2 ^ 2 ^ k in
    let high = v / 2 ^ 2 ^ k in
    bit_or (bit_or (places k low) (places k high)) (if nat_eq low high then 0 else 2 ^ k)

unfoldable pub mask_at : List ℕ → ℕ → ℕ
mask_at [] q = 0
mask_at (x ∷ S) q = bit_or (mask_at S q) (if bit_at q (length S) == 1 then 2 ^ x else 0)
