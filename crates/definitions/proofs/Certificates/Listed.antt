-- The sets that the tool lists, by the costs of their cells.
use Rattle.std.proofs.Common.{◌≡◌, ℕ, ◌+◌, ◌-◌, ◌^◌, ◌≤◌, true, ◌&&◌, List, arith, ltb}
use Rattle.std.specs.List.{filter, range_with_len}
use Rattle.definitions.specs.Functions.{Function}
use Rattle.definitions.specs.Orders.{members}
use Rattle.definitions.specs.Pairs.{Pair, is_lawful}
use Rattle.definitions.specs.Widths.{least, essentials_outside}
use Rattle.definitions.specs.LowerBounds.{nodes_above}
use Rattle.definitions.specs.declared.limits.LowerBound.TheVariants.{Variables}
use Rattle.definitions.specs.Cells.{cell_cost}
use Rattle.definitions.specs.Certificates.{listed_masks}
use Rattle.definitions.proofs.Widths.Cells.{within_from, cost_open, cost_known}

module _ (n : ℕ) (F : List Function) (P : List Pair) (bound total : ℕ) (le : total ≤ bound) where
  pub listed_cost : (mask : ℕ) → is_lawful P (members n mask) ≡ true →
      least n F P (members n mask) + essentials_outside n F (members n mask) ≤ bound →
      cell_cost n F P Variables bound mask ≡ least n F P (members n mask)
  unfolding nodes_above
  listed_cost mask l h = cost_open n F P Variables bound mask (within_from n F P Variables bound (members n mask) l h)

  pub listed_test : (mask : ℕ) →
      (is_lawful P (members n mask) && ltb (least n F P (members n mask) + essentials_outside n F (members n mask)) total) ≡ ltb
      (cell_cost n F P Variables bound mask + essentials_outside n F (members n mask)) total
  listed_test mask = grind (arith, listed_cost, cost_known)

  pub listed_by_cells : listed_masks n F P total ≡ filter
      (λ mask. ltb (cell_cost n F P Variables bound mask + essentials_outside n F (members n mask)) total) (range_with_len 0 (2 ^ n - 1))
  unfolding listed_masks
  listed_by_cells = λ i. filter (λ mask. listed_test mask i) (range_with_len 0 (2 ^ n - 1))
