-- The fewest nodes: the least cost of all variables, and the total of a good certificate.
use Rattle.std.proofs.Common.{◌≡◌, ◌↔◌, ℕ, ◌≤◌, true, List, length, sym, ◌∙◌, subst, arith}
use Rattle.definitions.specs.Functions.{Function}
use Rattle.definitions.specs.Orders.{IsOrder, variables}
use Rattle.definitions.specs.Pairs.{Pair, Keeps, is_above}
use Rattle.definitions.specs.Levels.{size_under}
use Rattle.definitions.specs.Widths.{cost, least}
use Rattle.definitions.specs.Diagrams.{FewestKeeping, HasFewestKeeping}
use Rattle.definitions.proofs.Lists.Sets.{Among}
use Rattle.definitions.proofs.Lists.Orders.{has_variables}
use Rattle.definitions.proofs.Precedence.Lists.{Ground, keeps_at, keeps_from, above_has, above_differs, above_from_lawful, lawful_from, lawful_below}
use Rattle.definitions.proofs.Functions.Exchange.{size_is_cost}
use Rattle.definitions.proofs.Nodes.LevelBound.{size_bound}
use Rattle.definitions.proofs.Widths.Recurrence.{IsArrangement, IsLawfulList, IsLawfulSet, least_is_least, distinct_variables}
use Rattle.definitions.proofs.Nodes.Construction.{exact_diagram}

pub arrangement_from_order : (n : ℕ) (order : List ℕ) → IsOrder n order → IsArrangement (variables n) order
arrangement_from_order n order o = grind (arith, has_variables)

pub order_from_arrangement : (n : ℕ) (order : List ℕ) → IsArrangement (variables n) order → IsOrder n order
order_from_arrangement n order a = grind (arith, has_variables)

-- an order that keeps the pairs orders each lawful set
pub ground : (n : ℕ) (P : List Pair) (order : List ℕ) → IsOrder n order → Keeps P order → Ground P order
ground n P order o k = record { once = o.once; keeps = k }

-- and in it each bottom part is lawful
pub lawful_from_order : (n : ℕ) (P : List Pair) (order : List ℕ) → IsOrder n order → Keeps P order → IsLawfulList P (variables n) order
lawful_from_order n P order o k = search (arrangement_from_order, lawful_below, keeps_at)

pub all_lawful : (n : ℕ) (P : List Pair) (order : List ℕ) → IsOrder n order → Keeps P order → IsLawfulSet P order (variables n)
all_lawful n P order o k = record {
  once = distinct_variables n;
  within = λ y h. (o.all y).1 ((has_variables n y).0 h);
  lawful = lawful_from P (variables n) (λ p m h. (has_variables n p.1).1 ((o.all p.1).0 (above_has p.0 p.1 order (keeps_at P order k p m)).1));
}

-- where some order keeps the pairs, a lawful list of all variables is an order that keeps them
pub order_from_lawful : (n : ℕ) (P : List Pair) (base : List ℕ) → IsOrder n base → Keeps P base → (order : List ℕ) →
    IsLawfulList P (variables n) order → IsOrder n order × Keeps P order
order_from_lawful n P base o k order a = (is, keeps_from P order each)
  where
    is : IsOrder n order
    is = order_from_arrangement n order a.arrangement

    each : (p : Pair) → Among p P → is_above p.0 p.1 order ≡ true
    each p m =
        let up = keeps_at P base k p m in
        above_from_lawful P order a.lawful p m (above_differs p.0 p.1 base o.once up) ((is.all p.0).1 ((o.all p.0).0 (above_has p.0 p.1 base up).0))

-- a size that some such order has and that none is below is the fewest
pub fewest_from_orders : (n : ℕ) (F : List Function) (P : List Pair) (order : List ℕ) → IsOrder n order → Keeps P order →
    ((other : List ℕ) → IsOrder n other → Keeps P other → size_under n F order ≤ size_under n F other) → FewestKeeping n F P (size_under n F order)
fewest_from_orders n F P order o k h =
    let exact = exact_diagram n F order o in
    record {
      some = (order, exact.0, o, k, exact.1.represents, exact.1.size);
      no_fewer = λ other d p q rep. omega (arith, size_bound n F other d p rep);
    }

module _ (n : ℕ) (F : List Function) (P : List Pair) (base : List ℕ) (o : IsOrder n base) (k : Keeps P base) where
  least_all : (order : List ℕ) → IsOrder n order → Keeps P order → least n F P (variables n) ≤ cost n F order
  least_all order p q =
      (least_is_least n F P base (ground n P base o k) (variables n) (all_lawful n P base o k)).no_less order
      (lawful_from_order n P order p q)

  -- the fewest nodes are the least cost of all variables
  pub fewest_is_least : FewestKeeping n F P (least n F P (variables n))
  fewest_is_least =
      let all = least_is_least n F P base (ground n P base o k) (variables n) (all_lawful n P base o k) in
      let is = order_from_lawful n P base o k all.some.0 all.some.1 in
      let size = size_is_cost n F all.some.0 is.0 ∙ all.some.2 in
      subst (FewestKeeping n F P) size
      (fewest_from_orders n F P all.some.0 is.0 is.1
      (λ other p q. omega (arith, least_all other p q, size_is_cost n F other p)))

-- the fewest are one number
pub fewest_unique : (n : ℕ) (F : List Function) (P : List Pair) (a b : ℕ) → FewestKeeping n F P a → FewestKeeping n F P b → a ≡ b
fewest_unique n F P a b f g =
    omega (arith, f.no_fewer g.some.0 g.some.1 g.some.2 g.some.3 g.some.4, g.no_fewer f.some.0 f.some.1 f.some.2 f.some.3 f.some.4)

-- an order that keeps the pairs and whose cost is the least
pub record IsLeastOrder (n : ℕ) (F : List Function) (P : List Pair) (order : List ℕ) : Type 0 where
  pub is_order : IsOrder n order
  pub kept : Keeps P order
  pub least_cost : cost n F order ≡ least n F P (variables n)

-- an order has a diagram of the fewest nodes just where its size is the least
pub has_fewest_lem : (n : ℕ) (F : List Function) (P : List Pair) (order : List ℕ) → HasFewestKeeping n F P order ↔ IsLeastOrder n F P order
has_fewest_lem n F P order = (
  λ h.
      let d = h.fewest.0 in
      record {
        is_order = h.is_order;
        kept = h.kept;
        least_cost =
            omega (
              arith,
              fewest_unique n F P (length d.nodes) (least n F P (variables n)) h.fewest.2 (fewest_is_least n F P order h.is_order h.kept),
              size_bound n F order d h.is_order h.fewest.1,
              size_is_cost n F order h.is_order,
              least_all n F P order h.is_order h.kept order h.is_order h.kept,
            );
      },
  λ h.
      let exact = exact_diagram n F order h.is_order in
      let size = exact.1.size ∙ size_is_cost n F order h.is_order ∙ h.least_cost in
      record {
        is_order = h.is_order;
        kept = h.kept;
        fewest = (exact.0, exact.1.represents, subst (FewestKeeping n F P) (sym size) (fewest_is_least n F P order h.is_order h.kept));
      },
)
