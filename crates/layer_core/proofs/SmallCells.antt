-- A cell fits its word: the cost is at most one more than the bound, and the variable is below the number of variables.
use Rattle.std.proofs.Common.{◌≡◌, ℕ, ◌+◌, ◌<◌, ◌≤◌, ◌||◌, Bool, true, nat_le, nat_eq, List, [], ◌∷◌, ap, arith}
use Rattle.std.proofs.lemmas.Bool.{and_parts}
use Rattle.definitions.specs.Functions.{Function}
use Rattle.definitions.specs.Pairs.{Pair}
use Rattle.definitions.specs.Orders.{has, members}
use Rattle.definitions.specs.Widths.{least}
use Rattle.definitions.specs.LowerBounds.{nodes_above}
use Rattle.definitions.specs.declared.limits.LowerBound.{LowerBound}
use Rattle.definitions.specs.Cells.{cell_of, first_of, is_within, best_top}
use Rattle.definitions.proofs.Lists.Orders.{has_filter}
use Rattle.definitions.proofs.Bits.Masks.{members_small}
use Rattle.definitions.proofs.Widths.Cells.{open_is, closed_cell}

first_small : (xs : List ℕ) (n : ℕ) → ((y : ℕ) → has xs y ≡ true → y < n) → first_of xs ≤ n
first_small [] n all = omega arith
first_small (x ∷ xs) n all = omega (arith, all x (ap (λ (b : Bool). b || has xs x) (same x)))
  where
    same : (x : ℕ) → nat_eq x x ≡ true
    same x = grind arith

sum_le : (a b c : ℕ) → nat_le (a + b) c ≡ true → a ≤ c
sum_le a b c e = grind arith

module _ (n : ℕ) (F : List Function) (P : List Pair) (r : LowerBound) (bound mask : ℕ) where
  abbrev S : List ℕ
  S = members n mask

  top_small : best_top n F P S ≤ n
  unfolding best_top
  top_small = grind (arith, first_small, members_small, has_filter)

  within_bound : is_within n F P r bound S ≡ true → least n F P S ≤ bound
  unfolding is_within
  within_bound h = sum_le (least n F P S) (nodes_above n F r S) bound (and_parts _ _ h).1

  pub cell_small : ((cell_of n F P r bound mask).0 ≤ bound + 1) × ((cell_of n F P r bound mask).1 ≤ n)
  cell_small = grind (arith, open_is, within_bound, top_small, closed_cell, first_small, members_small)
