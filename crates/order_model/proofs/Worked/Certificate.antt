-- The multiplexer's certificate is good, and its cells give its best order: the premises of the laws can be met.
use Rattle.std.proofs.Common.{ℕ, ◌+◌, ◌<◌, ◌≤◌, ◌^◌, List, [], ◌∷◌, refl, arith, lit≤, IsFalse}
use Rattle.std.specs.List.{IsDistinct}
use Rattle.std.proofs.lemmas.List.Elements.{All-from_recursion}
use Rattle.definitions.specs.Functions.{Function, points, restrict, table, depends}
use Rattle.definitions.specs.Orders.{IsOrder, has, members, without}
use Rattle.definitions.specs.Levels.{subfunctions, reach, dependents, level_count, level_counts, size_under}
use Rattle.definitions.specs.Widths.{outside, width, cost, arrangements, least_of, least, essential, essentials_outside}
use Rattle.definitions.specs.Pairs.{keeps, Keeps, is_lawful, are_lawful}
use Rattle.definitions.specs.LowerBounds.{nodes_above}
use Rattle.definitions.specs.declared.limits.LowerBound.TheVariants.{Variables}
use Rattle.definitions.specs.Cells.{is_within, best_top, cell_of, IsReadFrom}
use Rattle.definitions.specs.Certificates.{Certificate, Cell, IsGood, lower_bound, set_value, AreBothLawful}
use Rattle.definitions.specs.Diagrams.{Fewest, IsFirst}
use Rattle.definitions.proofs.Certificates.Potential.{good_is_fewest}
use Rattle.definitions.proofs.Widths.Clipped.{clip}
use Rattle.order_model.proofs.Worked.Counts.{mux}
use Rattle.order_model.proofs.Worked.Pairs.{cell}

abbrev F : List Function
F = mux ∷ []

abbrev best_order : List ℕ
best_order = 2 ∷ 0 ∷ 1 ∷ []

is_order : IsOrder 3 best_order
unfolding IsDistinct
is_order = grind arith

abbrev certificate : Certificate
certificate = record {
  format = 1;
  pairs = [];
  inputs = 3;
  outputs = 1;
  order = best_order;
  levels = 1 ∷ 1 ∷ 1 ∷ [];
  total = 3;
  cells = cell 0 0 ∷ cell 1 1 ∷ cell 2 1 ∷ cell 3 2 ∷ cell 4 2 ∷ [];
}

abbrev Edges : Cell → Type 0
Edges c = (x : ℕ) → x < 3 → IsFalse (has (members 3 c.mask) x) → AreBothLawful 3 [] c.mask x →
    set_value 3 F certificate (c.mask + 2 ^ x) ≤ set_value 3 F certificate c.mask + width 3 F (members 3 c.mask) x

edges_of : (c : Cell) →
    (IsFalse (has (members 3 c.mask) 0) → AreBothLawful 3 [] c.mask 0 →
    set_value 3 F certificate (c.mask + 2 ^ 0) ≤ set_value 3 F certificate c.mask + width 3 F (members 3 c.mask) 0) →
    (IsFalse (has (members 3 c.mask) 1) → AreBothLawful 3 [] c.mask 1 →
    set_value 3 F certificate (c.mask + 2 ^ 1) ≤ set_value 3 F certificate c.mask + width 3 F (members 3 c.mask) 1) →
    (IsFalse (has (members 3 c.mask) 2) → AreBothLawful 3 [] c.mask 2 →
    set_value 3 F certificate (c.mask + 2 ^ 2) ≤ set_value 3 F certificate c.mask + width 3 F (members 3 c.mask) 2)
    → Edges c
edges_of c e f g x lt out = grind arith

good : IsGood 3 F certificate
unfolding points restrict table depends subfunctions reach dependents level_count level_counts outside width members set_value lower_bound keeps
good = record {
  inputs = refl;
  outputs = refl;
  order = is_order;
  pairs = refl;
  levels = refl;
  total = refl;
  start = refl;
  cells = grind arith;
  edges = All-from_recursion Edges certificate.cells (
    edges_of (cell 0 0) (λ h l. lit≤ tt) (λ h l. lit≤ tt) (λ h l. lit≤ tt),
    (
      edges_of (cell 1 1) (λ h l. cc) (λ h l. lit≤ tt) (λ h l. lit≤ tt),
      (
        edges_of (cell 2 1) (λ h l. lit≤ tt) (λ h l. cc) (λ h l. lit≤ tt),
        (
          edges_of (cell 3 2) (λ h l. cc) (λ h l. cc) (λ h l. lit≤ tt),
          (edges_of (cell 4 2) (λ h l. lit≤ tt) (λ h l. lit≤ tt) (λ h l. cc), tt),
        ),
      ),
    ),
  );
}

three_is_fewest : Fewest 3 F 3
three_is_fewest = good_is_fewest 3 F certificate good

read_off : IsReadFrom 3 F [] Variables 3 7 best_order
unfolding points restrict table depends subfunctions reach dependents outside width cost without arrangements are_lawful is_lawful least_of
    least members essential essentials_outside nodes_above is_within best_top cell_of IsReadFrom
read_off = (refl, refl, (refl, refl, (refl, refl, refl)))

kept : Keeps [] best_order
unfolding keeps
kept = refl

best_is_first : IsFirst 3 F best_order
unfolding points restrict table depends subfunctions reach dependents level_count level_counts size_under
best_is_first = clip 3 F [] Variables best_order best_order is_order kept read_off
