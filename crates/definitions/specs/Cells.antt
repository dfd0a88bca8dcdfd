-- Cells of sets of variables: the least cost and the best top of a set, or clipped, that is pruned, if no order through the set stays within the bound.
--     is_within n F P r bound S      whether an order through S may have at most bound nodes, by the lower bound on the nodes above S
--     cell_of n F P r bound mask, cell_cost n F P r bound mask      the cell (cost, variable) of a set; its cost, 0 for the empty set
--     asked n r bound mask costs      the members of a set whose widths its cell takes
--     cell_from n P bound left mask costs widths      the cell from the costs of the sets with one variable less
--     IsFirstLeast S bound costs widths x      x gives the least sum within the bound, and is the first that does
--     IsReadFrom n F P r bound mask order      the order that the cells give, from a set downward
--     wanted n F P r bound mask, widths_taken n F P r bound      the members of a set whose widths are taken; how many widths all sets take
use Rattle.std.specs.Prelude.{◌≡◌, ◌≢◌, ℕ, ◌+◌, ◌-◌, ◌^◌, ◌<◌, ◌≤◌, Bool, not, if◌then◌else◌, ◌&&◌, List, [], ◌∷◌, length, map, slice_index, IsTrue, nat_eq, nat_le}
use Rattle.std.specs.List.{filter, sum, range_with_len}
use Rattle.definitions.specs.Functions.{Function}
use Rattle.definitions.specs.Orders.{has, members, without}
use Rattle.definitions.specs.Pairs.{Pair, is_lawful, tops}
use Rattle.definitions.specs.Widths.{width, cost, least_of, least, least_with_top}
use Rattle.definitions.specs.LowerBounds.{nodes_above}
use Rattle.definitions.specs.declared.limits.LowerBound.{LowerBound}
use Rattle.definitions.specs.declared.limits.LowerBound.TheVariants.{Variables, Widths}

-- the first variable of a list, or 0 if the list is empty
abbrev pub first_of : List ℕ → ℕ
first_of xs = slice_index xs 0

-- whether S is lawful, and its least cost and the lower bound on the nodes above it are at most the bound
unfoldable pub is_within : ℕ → List Function → List Pair → LowerBound → ℕ → List ℕ → Bool
is_within n F P r bound S = is_lawful P S && nat_le (least n F P S + nodes_above n F r S) bound

-- the smallest of the members that give a lawful S its least cost on top
unfoldable pub best_top : ℕ → List Function → List Pair → List ℕ → ℕ
best_top n F P S = first_of (filter (λ x. nat_eq (least_with_top n F P S x) (least n F P S)) (tops P S))

-- the cell of a set that is not empty: its least cost and its best top if it is within the bound, else the bound plus 1 and its smallest member
unfoldable pub cell_of : ℕ → List Function → List Pair → LowerBound → ℕ → ℕ → ℕ × ℕ
cell_of n F P r bound mask =
    if is_within n F P r bound (members n mask) then (least n F P (members n mask), best_top n F P (members n mask))
    else (bound + 1, first_of (members n mask))

-- the cost of a set: that of its cell, and 0 for the empty set
unfoldable pub cell_cost : ℕ → List Function → List Pair → LowerBound → ℕ → ℕ → ℕ
cell_cost n F P r bound mask = if nat_eq mask 0 then 0 else (cell_of n F P r bound mask).0

-- the candidates: the members x for which the cost of the set without x is at most the bound
unfoldable pub candidates : ℕ → ℕ → ℕ → (ℕ → ℕ) → List ℕ
candidates n bound mask costs = filter (λ x. nat_le (costs x) bound) (members n mask)

-- the members whose widths the cell takes: these, or all members if the bound is by widths and there is any such
unfoldable pub asked : ℕ → LowerBound → ℕ → ℕ → (ℕ → ℕ) → List ℕ
asked n Variables bound mask costs = candidates n bound mask costs
asked n Widths bound mask costs = if nat_eq (length (candidates n bound mask costs)) 0 then [] else members n mask

-- `costs x` is the cost of the set without its member x, and `widths x`, if the set is lawful and its cell takes it, is the width of x
pub record AreForCell (n : ℕ) (F : List Function) (P : List Pair) (r : LowerBound) (bound mask : ℕ) (costs widths : ℕ → ℕ) : Type 0 where
  pub are_costs : (x : ℕ) → IsTrue (has (members n mask) x) → costs x ≡ cell_cost n F P r bound (mask - 2 ^ x)
  pub are_widths : IsTrue (is_lawful P (members n mask)) → (x : ℕ) → IsTrue (has (asked n r bound mask costs) x) →
      widths x ≡ width n F (without x (members n mask)) x

-- the least sum of `costs x` and `widths x` over the candidates x
unfoldable pub least_sum : ℕ → ℕ → ℕ → (ℕ → ℕ) → (ℕ → ℕ) → ℕ
least_sum n bound mask costs widths = least_of (map (λ x. costs x + widths x) (candidates n bound mask costs))

-- whether the set is lawful, it has a candidate, and the least sum leaves room for the lower bound on the nodes above it
unfoldable pub has_room : ℕ → List Pair → ℕ → ℕ → ℕ → (ℕ → ℕ) → (ℕ → ℕ) → Bool
has_room n P bound left mask costs widths =
    is_lawful P (members n mask)
    && (not (nat_eq (length (candidates n bound mask costs)) 0)
    && nat_le (least_sum n bound mask costs widths + left) bound)

-- the cell of a set, from the lower bound on the nodes above it, the costs of the set without one member, and the members' widths
unfoldable pub cell_from : ℕ → List Pair → ℕ → ℕ → ℕ → (ℕ → ℕ) → (ℕ → ℕ) → ℕ × ℕ
cell_from n P bound left mask costs widths =
    if has_room n P bound left mask costs widths then (
      least_sum n bound mask costs widths,
      first_of (filter (λ x. nat_eq (costs x + widths x) (least_sum n bound mask costs widths))
          (candidates n bound mask costs)),
    )
    else (bound + 1, first_of (members n mask))

-- x is a candidate for which `costs x + widths x` is least, and the smallest such candidate
pub record IsFirstLeast (S : List ℕ) (bound : ℕ) (costs widths : ℕ → ℕ) (x : ℕ) : Type 0 where
  pub member : IsTrue (has S x)
  pub affordable : costs x ≤ bound
  pub least : (y : ℕ) → IsTrue (has S y) → costs y ≤ bound → costs x + widths x ≤ costs y + widths y
  pub first : (y : ℕ) → y < x → IsTrue (has S y) → costs y ≤ bound → costs y + widths y ≢ costs x + widths x

-- an order read off cells, from a set downward: the cell's variable stands next from the top
unfoldable pub IsReadFrom : ℕ → List Function → List Pair → LowerBound → ℕ → ℕ → List ℕ → Type 0
IsReadFrom n F P r bound mask [] = mask ≡ 0
IsReadFrom n F P r bound mask (x ∷ order) = IsTrue (has (members n mask) x) × (x ≡ (cell_of n F P r bound mask).1)
    × IsReadFrom n F P r bound (mask - 2 ^ x) order

-- no cell from which the order is read is clipped: each has the cost of the variables that are still to come in the order
unfoldable pub AreUnclipped : ℕ → List Function → List Pair → LowerBound → ℕ → ℕ → List ℕ → Type 0
AreUnclipped n F P r bound mask [] = Unit {0}
AreUnclipped n F P r bound mask (x ∷ order) =
    ((cell_of n F P r bound mask).0 ≡ cost n F (x ∷ order)) × (cost n F (x ∷ order) ≤ bound)
    × AreUnclipped n F P r bound (mask - 2 ^ x) order

-- the members without which a lawful set stays lawful and has a cost of at most the bound
unfoldable pub open_tops : ℕ → List Function → List Pair → LowerBound → ℕ → ℕ → List ℕ
open_tops n F P r bound mask = filter
    (λ x. is_lawful P (members n mask) && nat_le (cell_cost n F P r bound (mask - 2 ^ x)) bound) (tops P (members n mask))

-- the members of a set whose widths its cell takes: these, or all members if the bound is by widths and there is any such
unfoldable pub wanted : ℕ → List Function → List Pair → LowerBound → ℕ → ℕ → List ℕ
wanted n F P Variables bound mask = open_tops n F P Variables bound mask
wanted n F P Widths bound mask = if nat_eq (length (open_tops n F P Widths bound mask)) 0 then [] else members n mask

-- how many widths the cells of all sets take
unfoldable pub widths_taken : ℕ → List Function → List Pair → LowerBound → ℕ → ℕ
widths_taken n F P r bound = sum (map (λ mask. length (wanted n F P r bound mask)) (range_with_len 0 (2 ^ n)))
