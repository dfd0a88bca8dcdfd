-- A reduced diagram of three nodes for the conjunction and the disjunction of two variables.
use Rattle.std.proofs.Common.{◌≡◌, ◌≢◌, ℕ, zero, suc, ◌<◌, ◌&&◌, ◌||◌, true, false, inr, [], ◌∷◌, refl, arith, slice_get, Some, lit<}
use Rattle.definitions.specs.declared.refs.Ref.TheVariants.{Terminal, Place}
use Rattle.definitions.specs.declared.refs.Node.{Node}
use Rattle.definitions.specs.Functions.{Function, bit, points, SameFunction}
use Rattle.definitions.specs.Orders.{place_in}
use Rattle.definitions.specs.Diagrams.{Graph, IsDiagram, IsOrdered, IsOf, IsReduced, Reached, Represents, next, after, child_of, is_one, value}
use Rattle.definitions.specs.Diagrams.Reached.{from_root, from_parent}

abbrev both : Function
both p = bit p 0 && bit p 1

abbrev either : Function
either p = bit p 0 || bit p 1

abbrev second : Node
second = record { variable = 1; low = Terminal false; high = Terminal true }

abbrev and_node : Node
and_node = record { variable = 0; low = Terminal false; high = Place 0 }

abbrev or_node : Node
or_node = record { variable = 0; low = Place 0; high = Terminal true }

abbrev three_nodes : Graph
three_nodes = record { nodes = second ∷ and_node ∷ or_node ∷ []; roots = Place 1 ∷ Place 2 ∷ [] }

-- what holds of the three nodes at their places holds of each node at its place
each_node : (P : ℕ → Node → Type 0) → P 0 second → P 1 and_node → P 2 or_node → (k : ℕ) (node : Node) → slice_get three_nodes.nodes k ≡ Some node → P k node
each_node P h l m k node e = grind arith

three_is_diagram : IsDiagram 2 three_nodes
three_is_diagram = grind arith

three_of : IsOf 2 (both ∷ either ∷ []) three_nodes
unfolding IsOf SameFunction value after next child_of is_one points
three_of = grind arith

three_ordered : IsOrdered (0 ∷ 1 ∷ []) three_nodes
unfolding IsOrdered place_in
three_ordered j k child parent c p = grind arith

three_represent : Represents 2 (both ∷ either ∷ []) (0 ∷ 1 ∷ []) three_nodes
three_represent = record { diagram = three_is_diagram; ordered = three_ordered; functions = three_of }

three_reduced : IsReduced three_nodes
three_reduced = record {
  not_redundant = each_node (λ k node. node.low ≢ node.high) (λ e. cc) (λ e. cc) (λ e. cc);
  no_two_equal = λ j k node a b.
      each_node (λ i other. slice_get three_nodes.nodes k ≡ Some other → i ≡ k)
      (λ e. each_node (λ i other. other ≡ second → 0 ≡ i) (λ e. refl) (λ e. absurd (different_variable and_node second e (omega arith)))
      (λ e. absurd (different_variable or_node second e (omega arith))) k second e refl)
      (λ e. each_node (λ i other. other ≡ and_node → 1 ≡ i) (λ e. absurd (different_variable second and_node e (omega arith))) (λ e. refl)
      (λ e. absurd (different_low or_node and_node e (λ f. cc))) k and_node e refl)
      (λ e. each_node (λ i other. other ≡ or_node → 2 ≡ i) (λ e. absurd (different_variable second or_node e (omega arith)))
      (λ e. absurd (different_low and_node or_node e (λ f. cc))) (λ e. refl) k or_node e refl)
      j node a b;
  all_reached = reached;
}
  where
    different_variable : (a b : Node) → a ≡ b → a.variable ≢ b.variable → ⊥
    different_variable a b e ne = ne (λ i. (e i).variable)

    different_low : (a b : Node) → a ≡ b → a.low ≢ b.low → ⊥
    different_low a b e ne = ne (λ i. (e i).low)

    reached : (k : ℕ) → k < 3 → Reached three_nodes (Place k)
    reached zero h = from_parent 1 and_node (from_root (0, lit< tt, refl)) refl (inr refl)
    reached (suc zero) h = from_root (0, lit< tt, refl)
    reached (suc (suc zero)) h = from_root (1, lit< tt, refl)
    reached (suc (suc (suc k))) h = absurd (omega arith)
