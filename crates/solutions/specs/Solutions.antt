-- What the cells of all sets give.
--     cost_for t mask, cost_for_without t mask x      the cost of a set; the cost of a set without one member
--     IsReadOff t order      the order that the cells give
--     AreListedFor t total cells      the sets that a certificate lists, with their costs
--     widths_for_all t      how many widths the cells of all sets take
--     IsFirstFewest n F P order levels total      the first order of the fewest nodes among those that keep the pairs, with its level counts and its size
--     IsReadFor t order levels total      the first order of the fewest nodes of an instance, whose size is within the bound
--     IsOptimumFor problem P o      o has the first order of the fewest nodes, its level counts and its size
--     IsSolution problem P s      s has this optimum, and the cells that its certificate lists
use Rattle.std.specs.Prelude.{◌≡◌, ℕ, ◌-◌, ◌^◌, ◌≤◌, List, map}
use Rattle.definitions.specs.Functions.{Function}
use Rattle.definitions.specs.Pairs.{Pair}
use Rattle.definitions.specs.Problems.{TruthTables, functions}
use Rattle.definitions.specs.Levels.{level_counts, size_under}
use Rattle.definitions.specs.Diagrams.{FewestKeeping, IsFirstKeeping}
use Rattle.definitions.specs.Cells.{IsReadFrom, cell_cost, widths_taken}
use Rattle.definitions.specs.Certificates.{certificate_of, least_listed, listed_masks}
use Rattle.definitions.specs.Listed.{listed}
use Rattle.definitions.specs.declared.listed_cells.ListedCell.{ListedCell}
use Rattle.layer_core.specs.Instances.{InstanceOf}
use Rattle.order_model.specs.declared.sized_orders.SizedOrder.{SizedOrder}
use Rattle.solutions.specs.declared.solution.Solution.{Solution}

-- the cost of a set
abbrev pub cost_for : InstanceOf → ℕ → ℕ
cost_for t mask = cell_cost t.problem.inputs (functions t.problem) t.pairs.pairs t.lower_bound t.bound mask

-- the cost of a set without one member
abbrev pub cost_for_without : InstanceOf → ℕ → ℕ → ℕ
cost_for_without t mask x = cost_for t (mask - 2 ^ x)

-- the order that the cells give from the set of all variables downward
abbrev pub IsReadOff : InstanceOf → List ℕ → Type 0
IsReadOff t order = IsReadFrom t.problem.inputs (functions t.problem) t.pairs.pairs t.lower_bound t.bound
    (2 ^ t.problem.inputs - 1) order

-- the sets that a certificate of this total lists, with their least costs
abbrev pub AreListedFor : InstanceOf → ℕ → List ListedCell → Type 0
AreListedFor t total cells =
    map listed cells ≡ map (least_listed t.problem.inputs (functions t.problem) t.pairs.pairs)
    (listed_masks t.problem.inputs (functions t.problem) t.pairs.pairs total)

-- how many widths the cells of all sets take
abbrev pub widths_for_all : InstanceOf → ℕ
widths_for_all t = widths_taken t.problem.inputs (functions t.problem) t.pairs.pairs t.lower_bound t.bound

-- the first order of the fewest nodes among those that keep the pairs, with its level counts and its size
pub record IsFirstFewest (n : ℕ) (F : List Function) (P : List Pair) (order levels : List ℕ) (total : ℕ) : Type 0 where
  pub first : IsFirstKeeping n F P order
  pub fewest : FewestKeeping n F P total
  pub size : total ≡ size_under n F order
  pub levels_are : levels ≡ level_counts n F order

-- the first order of the fewest nodes of an instance, whose size is within the bound
pub record IsReadFor (t : InstanceOf) (order levels : List ℕ) (total : ℕ) : Type 0 where
  pub first : IsFirstFewest t.problem.inputs (functions t.problem) t.pairs.pairs order levels total
  pub within : total ≤ t.bound

-- o has the first order of the fewest nodes, its level counts and its size
abbrev pub IsOptimumFor : TruthTables → List Pair → SizedOrder → Type 0
IsOptimumFor problem P o = IsFirstFewest problem.inputs (functions problem) P o.order o.levels.items o.total

-- s has this optimum, and the cells that its certificate lists
pub record IsSolution (problem : TruthTables) (P : List Pair) (s : Solution) : Type 0 where
  pub optimum : IsOptimumFor problem P s.optimum
  pub cells : map listed s.cells.items ≡ (certificate_of problem.inputs (functions problem) P s.optimum.order).cells
