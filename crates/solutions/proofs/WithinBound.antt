-- What is read off the cells of all sets, for a bound that some order stays within.
--     read_first, read_unclipped      reading from all variables gives the first order of the fewest nodes, and meets no clipped cell
use Rattle.std.proofs.Common.{◌≡◌, ℕ, ◌-◌, ◌^◌, ◌≤◌, true, List, sym, ◌∙◌, arith}
use Rattle.definitions.specs.Functions.{Function}
use Rattle.definitions.specs.Orders.{IsOrder, variables, members}
use Rattle.definitions.specs.Pairs.{Pair, Keeps}
use Rattle.definitions.specs.Levels.{size_under}
use Rattle.definitions.specs.Widths.{least}
use Rattle.definitions.specs.declared.limits.LowerBound.{LowerBound}
use Rattle.definitions.specs.Cells.{is_within, IsReadFrom, AreUnclipped}
use Rattle.definitions.specs.Diagrams.{IsFirstKeeping}
use Rattle.definitions.proofs.Bits.Masks.{members_full}
use Rattle.definitions.proofs.Widths.Recurrence.{least_same}
use Rattle.definitions.proofs.Widths.Fewest.{ground, all_lawful, lawful_from_order, order_from_lawful, has_fewest_lem}
use Rattle.definitions.proofs.Widths.Cells.{within_parts, within_from, lawful_members}
use Rattle.definitions.proofs.Widths.Clipped.{FirstRead, first_read, full_within, moved, unclipped}

-- a set within a bound is within a larger one
within_more : (n : ℕ) (F : List Function) (P : List Pair) (r : LowerBound) (bound more : ℕ) (S : List ℕ) → bound ≤ more →
    is_within n F P r bound S ≡ true → is_within n F P r more S ≡ true
within_more n F P r bound more S le h =
    let parts = within_parts n F P r bound S h in within_from n F P r more S parts.0 (let k = parts.1 in omega (arith, k, le))

module _ (n : ℕ) (F : List Function) (P : List Pair) (r : LowerBound) (bound : ℕ) (other : List ℕ) (o : IsOrder n other) (k : Keeps P other)
    (le : size_under n F other ≤ bound) (order : List ℕ) (read : IsReadFrom n F P r bound (2 ^ n - 1) order) where
  within : is_within n F P r bound (members n (2 ^ n - 1)) ≡ true
  within = within_more n F P r (size_under n F other) bound (members n (2 ^ n - 1)) le (full_within n F P other o k r other o k)

  got : FirstRead n F P (2 ^ n - 1) order
  got = first_read n F P other o k r bound order (2 ^ n - 1) read within

  kept : IsOrder n order × Keeps P order
  kept = order_from_lawful n P other o k order (moved P (members n (2 ^ n - 1)) (variables n) order (members_full n) got.is_lawful_list)

  all : least n F P (members n (2 ^ n - 1)) ≡ least n F P (variables n)
  all =
      least_same n F P other (ground n P other o k) (members n (2 ^ n - 1)) (variables n)
      (lawful_members n F P other o k (2 ^ n - 1) (within_parts n F P r bound (members n (2 ^ n - 1)) within).0)
      (all_lawful n P other o k) (members_full n)

  pub read_first : IsFirstKeeping n F P order
  read_first = record {
    fewest = (has_fewest_lem n F P order).1 (record { is_order = kept.0; kept = kept.1; least_cost = got.least_cost ∙ all });
    first = λ rival h.
        let it = (has_fewest_lem n F P rival).0 h in
        got.first rival
        (moved P (variables n) (members n (2 ^ n - 1)) rival (λ y. sym (members_full n y))
        (lawful_from_order n P rival it.is_order it.kept))
        (it.least_cost ∙ sym all);
  }

  pub read_unclipped : AreUnclipped n F P r bound (2 ^ n - 1) order
  read_unclipped = unclipped n F P other o k r bound order (2 ^ n - 1) read within
