-- Without pairs the definitions range over all orders.
use Rattle.std.proofs.Common.{◌≡◌, ◌≢◌, ◌↔◌, ℕ, ◌≤◌, List, [], length, sym, ◌∙◌, subst, nat_cmp, Greater}
use Rattle.std.specs.Cmp.Lexicographic.{slice_cmp}
use Rattle.definitions.specs.Functions.{Function}
use Rattle.definitions.specs.Orders.{IsOrder, variables}
use Rattle.definitions.specs.Pairs.{Keeps}
use Rattle.definitions.specs.Levels.{size_under}
use Rattle.definitions.specs.Widths.{least}
use Rattle.definitions.specs.Diagrams.{Graph, Represents, Fewest, IsFirst, FewestKeeping, HasFewestKeeping}
use Rattle.definitions.proofs.Precedence.Lists.{nothing_to_keep}
use Rattle.definitions.proofs.Functions.Exchange.{size_is_cost}
use Rattle.definitions.proofs.Widths.Fewest.{has_fewest_lem, fewest_is_least, fewest_unique}

free : (order : List ℕ) → Keeps [] order
free order = (nothing_to_keep order).0

-- the fewest nodes, in so many words
abbrev pub FewestPlain : ℕ → List Function → ℕ → Type 0
FewestPlain n F size =
    ((order : List ℕ) × (d : Graph) × IsOrder n order × Represents n F order d × (length d.nodes ≡ size))
    × ((order : List ℕ) (d : Graph) → IsOrder n order → Represents n F order d → size ≤ length d.nodes)

pub fewest_plain : (n : ℕ) (F : List Function) (size : ℕ) → Fewest n F size ↔ FewestPlain n F size
fewest_plain n F size = (
  λ f. ((f.some.0, f.some.1, f.some.2, f.some.4, f.some.5), λ order d o rep. f.no_fewer order d o (free order) rep),
  λ f. record { some = (f.0.0, f.0.1, f.0.2, free f.0.0, f.0.3, f.0.4); no_fewer = λ order d o k rep. f.1 order d o rep },
)

-- an order has the fewest nodes just where its size is the fewest
pub has_fewest_size : (n : ℕ) (F : List Function) (order : List ℕ) → HasFewestKeeping n F [] order ↔ (IsOrder n order × Fewest n F (size_under n F order))
has_fewest_size n F order = (
  λ h.
      let is = (has_fewest_lem n F [] order).0 h in
      (h.is_order, subst (FewestKeeping n F []) (sym (size_is_cost n F order h.is_order ∙ is.least_cost)) (fewest_is_least n F [] order h.is_order h.kept)),
  λ h.
      let e = fewest_unique n F [] (size_under n F order) (least n F [] (variables n)) h.1 (fewest_is_least n F [] order h.0 (free order)) in
      (has_fewest_lem n F [] order).1 (record { is_order = h.0; kept = free order; least_cost = sym (size_is_cost n F order h.0) ∙ e }),
)

pub first_plain : (n : ℕ) (F : List Function) (order : List ℕ) →
    IsFirst n F order ↔
    (IsOrder n order × Fewest n F (size_under n F order)
    × ((other : List ℕ) → IsOrder n other → Fewest n F (size_under n F other) → slice_cmp nat_cmp order other ≢ Greater))
first_plain n F order = (
  λ f. let h = (has_fewest_size n F order).0 f.fewest in (h.0, h.1, λ other o g. f.first other ((has_fewest_size n F other).1 (o, g))),
  λ f. record { fewest = (has_fewest_size n F order).1 (f.0, f.1); first = λ other h. let g = (has_fewest_size n F other).0 h in f.2 other g.0 g.1 },
)
