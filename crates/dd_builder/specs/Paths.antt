-- Paths: the values of the variables of an order, bit i for that of level i.
--     IsPointOf order path point      the number of the point that a path leads to
--     IsPointAbove order level path point      the number of the point that has a path's values for the variables above a level, and 0 for the others
--     IsPathOf b path      a path of a store's order, with its point
--     output_along b level path output      an output with the variables above a level fixed to the bits of a path
use Rattle.std.specs.Prelude.{◌≡◌, ℕ, ◌^◌, ◌<◌, ◌≤◌, List, length, slice_index, take}
use Rattle.std.specs.Int.{bit_at}
use Rattle.definitions.specs.Functions.{Function}
use Rattle.unique_table.specs.declared.plan.Plan.{Plan}
use Rattle.unique_table.specs.Plans.{order_of, levels_of, output_at, fixed}
use Rattle.dd_builder.specs.declared.tables.Path.{Path}

-- the number of a point at which the variable of each level has the path's bit for the level
pub record IsPointOf (order : List ℕ) (path point : ℕ) : Type 0 where
  pub small : point < 2 ^ length order
  pub bits : (i : ℕ) → i < length order → bit_at point (slice_index order i) ≡ bit_at path i

-- the number of the point with the path's bits for the variables above a level, and 0 for the other variables of the order
pub record IsPointAbove (order : List ℕ) (level path point : ℕ) : Type 0 where
  pub small : point < 2 ^ length order
  pub bits : (i : ℕ) → i < level → i < length order → bit_at point (slice_index order i) ≡ bit_at path i
  pub clear : (i : ℕ) → level ≤ i → i < length order → bit_at point (slice_index order i) ≡ 0

-- a path of a store's order, with the number of its point
pub record IsPathOf (b : Plan) (path : Path) : Type 0 where
  pub level : path.level ≤ levels_of b
  pub bits : path.bits < 2 ^ path.level
  pub point : IsPointAbove (order_of b) path.level path.bits path.point

-- an output of a store with the variables above a level fixed to the bits of a path
abbrev pub output_along : Plan → ℕ → ℕ → ℕ → Function
output_along b level path output = fixed (take level (order_of b)) path (output_at b.problem.value output)
