-- The lower bound on the nodes above a set of variables.
--     functions_with n F x, functions_without n F x      the functions that depend on x, and the others
--     asked_by n F S x      the nodes above S that the width of its member x requires
--     nodes_above n F r S      the lower bound on the nodes above S
--     support n f      the mask of the variables on which f depends
--     LowerBoundsOf, lower_bounds_with t r      what determines lower bounds: a problem, and the rule of the bound
--     HoldsLowerBounds t essential dependents others      the masks and counts from which lower bounds are computed
--     AreMembersWidths t mask widths      the widths of the members of a mask
use Rattle.std.specs.Prelude.{◌≡◌, ℕ, ◌+◌, ◌-◌, ◌<◌, ◌≤◌, not, max, IsTrue, List, length, map, slice_index}
use Rattle.std.specs.List.{filter, fold}
use Rattle.definitions.specs.Functions.{Function, depends}
use Rattle.definitions.specs.Orders.{has, mask_of, members, variables, without}
use Rattle.definitions.specs.Problems.{TruthTables, functions}
use Rattle.definitions.specs.Widths.{width, essential_mask, essentials_outside}
use Rattle.definitions.specs.declared.limits.LowerBound.{LowerBound}
use Rattle.definitions.specs.declared.limits.LowerBound.TheVariants.{Variables, Widths}

-- the functions that depend on x
unfoldable pub functions_with : ℕ → List Function → ℕ → List Function
functions_with n F x = filter (λ f. depends n f x) F

-- the functions that do not depend on x
unfoldable pub functions_without : ℕ → List Function → ℕ → List Function
functions_without n F x = filter (λ f. not (depends n f x)) F

-- the nodes above S that the width of its member x requires: each node above leads to one more function that depends on x than it stands for,
-- and a function that doesn't depend on x needs a node for each variable outside on which it depends
unfoldable pub asked_by : ℕ → List Function → List ℕ → ℕ → ℕ
asked_by n F S x = (width n F (without x S) x - length (functions_with n F x)) + essentials_outside n (functions_without n F x) S

-- the lower bound on the nodes above S
unfoldable pub nodes_above : ℕ → List Function → LowerBound → List ℕ → ℕ
nodes_above n F Variables S = essentials_outside n F S
nodes_above n F Widths S = fold max (essentials_outside n F S) (map (asked_by n F S) S)

-- the mask of the variables on which f depends
abbrev pub support : ℕ → Function → ℕ
support n f = mask_of (filter (depends n f) (variables n))

-- a problem, and the rule of the bound
pub record LowerBoundsOf : Type 0 where
  pub problem : TruthTables
  pub lower_bound : LowerBound

abbrev pub lower_bounds_with : TruthTables → LowerBound → LowerBoundsOf
lower_bounds_with problem lower_bound = record { problem = problem; lower_bound = lower_bound }

-- the mask of the essential variables; for each variable how many functions depend on it, and the mask of the essential variables of the others
pub record HoldsLowerBounds (t : TruthTables) (essential : ℕ) (dependents others : List ℕ) : Type 0 where
  pub few : t.inputs ≤ 16
  pub essential_is : essential ≡ essential_mask t.inputs (functions t)
  pub dependents_are : (x : ℕ) → x < t.inputs → slice_index dependents x ≡ length (functions_with t.inputs (functions t) x)
  pub others_are : (x : ℕ) → x < t.inputs → slice_index others x ≡ essential_mask t.inputs (functions_without t.inputs (functions t) x)

-- the width of each member of a mask over the others
abbrev pub AreMembersWidths : TruthTables → ℕ → List ℕ → Type 0
AreMembersWidths t mask widths =
    (x : ℕ) → IsTrue (has (members t.inputs mask) x) → slice_index widths x ≡ width t.inputs (functions t) (without x (members t.inputs mask)) x
