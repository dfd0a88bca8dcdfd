-- The total, the levels and the listed sets of the order that the cells give.
use Rattle.std.proofs.Common.{◌≡◌, ℕ, ◌-◌, ◌^◌, ◌≤◌, List, [], ◌∷◌, map, sym, ◌∙◌, subst, arith}
use Rattle.definitions.specs.Functions.{Function}
use Rattle.definitions.specs.Pairs.{Pair}
use Rattle.definitions.specs.Problems.{functions}
use Rattle.definitions.specs.Levels.{size_under}
use Rattle.definitions.specs.Widths.{cost}
use Rattle.definitions.specs.Cells.{cell_cost, IsReadFrom, AreUnclipped}
use Rattle.definitions.specs.Certificates.{certificate_of, least_listed, listed_masks}
use Rattle.definitions.specs.Diagrams.{FewestKeeping}
use Rattle.definitions.proofs.Functions.Exchange.{size_is_cost}
use Rattle.definitions.proofs.Widths.Fewest.{has_fewest_lem, fewest_is_least}
use Rattle.layer_core.specs.Instances.{InstanceOf}
use Rattle.solutions.specs.Bounded.{IsBounded}
use Rattle.solutions.proofs.ReadOrders.{order_first, order_is, order_unclipped, left, left_cost}

module _ (t : InstanceOf) (b : IsBounded t) (order : List ℕ)
    (read : IsReadFrom t.problem.inputs (functions t.problem) t.pairs.pairs t.lower_bound t.bound (2 ^ t.problem.inputs - 1) order) (total : ℕ)
    (is : total ≡ cell_cost t.problem.inputs (functions t.problem) t.pairs.pairs t.lower_bound t.bound (2 ^ t.problem.inputs - 1)) where
  abbrev n : ℕ
  n = t.problem.inputs

  abbrev F : List Function
  F = functions t.problem

  abbrev P : List Pair
  P = t.pairs.pairs

  total_cost : total ≡ cost n F order
  unfolding left
  total_cost = is ∙ left_cost n F P t.lower_bound t.bound order (2 ^ n - 1) 0 read (order_unclipped t b order read) (omega arith)

  pub total_size : total ≡ size_under n F order
  total_size = total_cost ∙ sym (size_is_cost n F order (order_is t b order read))

  small : (xs : List ℕ) → AreUnclipped n F P t.lower_bound t.bound (2 ^ n - 1) xs → cost n F xs ≤ t.bound
  unfolding AreUnclipped cost
  small [] u = omega arith
  small (x ∷ xs) u = u.1

  pub total_small : total ≤ t.bound
  total_small = let k = small order (order_unclipped t b order read) in let e = total_cost in omega (arith, e, k)

  pub total_fewest : FewestKeeping n F P total
  total_fewest =
      let h = (has_fewest_lem n F P order).0 (order_first t b order read).fewest in
      subst (λ (k : ℕ). FewestKeeping n F P k) (sym (total_cost ∙ h.least_cost)) (fewest_is_least n F P order h.is_order h.kept)

-- the sets that are listed for the size of an order are those of its certificate
pub cells_listed : (t : InstanceOf) (order : List ℕ) (total : ℕ) → total ≡ size_under t.problem.inputs (functions t.problem) order →
    map (least_listed t.problem.inputs (functions t.problem) t.pairs.pairs) (listed_masks t.problem.inputs (functions t.problem) t.pairs.pairs total)
    ≡ (certificate_of t.problem.inputs (functions t.problem) t.pairs.pairs order).cells
unfolding certificate_of
cells_listed t order total size = grind arith
