-- Nodes appended to a diagram's list: the old refs keep their values.
use Rattle.std.proofs.Common.{◌≡◌, ℕ, zero, suc, ◌+◌, ◌<◌, ◌≤◌, ◌⊎◌, inl, inr, List, [], ◌∷◌, ◌++◌, length, refl, sym, ap, ◌∙◌, arith, slice_get, Some, zero-add}
use Rattle.std.proofs.lemmas.Option.{slice_get_cases}
use Rattle.definitions.specs.declared.refs.Ref.{Ref}
use Rattle.definitions.specs.declared.refs.Ref.TheVariants.{Terminal, Place}
use Rattle.definitions.specs.declared.refs.Node.{Node}
use Rattle.definitions.specs.Functions.{Point, bit}
use Rattle.definitions.specs.Diagrams.{Graph, IsDiagram, IsNodeAt, IsBefore, child_at, value}
use Rattle.definitions.proofs.Nodes.Paths.{before_more, child_before, value_place, value_terminal}

pub get_left : {X : Type 0} (xs ys : List X) (k : ℕ) → k < length xs → slice_get (xs ++ ys) k ≡ slice_get xs k
get_left [] ys k h = absurd (omega arith)
get_left (x ∷ xs) ys zero h = refl
get_left (x ∷ xs) ys (suc k) h = get_left xs ys k (omega arith)

pub get_right : {X : Type 0} (xs ys : List X) (j : ℕ) → slice_get (xs ++ ys) (length xs + j) ≡ slice_get ys j
get_right [] ys j = ap (slice_get ys) (zero-add j)
get_right (x ∷ xs) ys j = let e : suc (length xs) + j ≡ suc (length xs + j) = omega arith in ap (slice_get (x ∷ (xs ++ ys))) e ∙ get_right xs ys j

-- an element of two joined lists is one of the first, or of the second at its own place
pub get_cases : {X : Type 0} (xs ys : List X) (k : ℕ) (z : X) → slice_get (xs ++ ys) k ≡ Some z →
    (slice_get xs k ≡ Some z) ⊎ ((j : ℕ) × (k ≡ length xs + j) × (slice_get ys j ≡ Some z))
get_cases [] ys k z e = inr (k, sym (zero-add k), e)
get_cases (x ∷ xs) ys zero z e = inl e
get_cases (x ∷ xs) ys (suc k) z e = elim (get_cases xs ys k z e) [ inl a ↦ inl a | inr b ↦ inr (b.0, omega arith, b.2) ]

abbrev pub graph_of : List Node → Graph
graph_of nodes = record { nodes = nodes; roots = [] }

abbrev pub AllFit : ℕ → List Node → Type 0
AllFit n nodes = (k : ℕ) (node : Node) → slice_get nodes k ≡ Some node → IsNodeAt n k node

pub diagram_of : (n : ℕ) (nodes : List Node) → AllFit n nodes → IsDiagram n (graph_of nodes)
diagram_of n nodes fit = record { nodes = fit; roots = λ k d h. absurd (omega arith) }

module _ (n : ℕ) (old more : List Node) (fit : AllFit n old) (all : AllFit n (old ++ more)) where
  -- the old refs keep their values
  pub value_append : (p : Point) (k : ℕ) (r : Ref) → k ≤ length old → IsBefore k r → value (old ++ more) r p ≡ value old r p
  value_append p k (Terminal b) le h = value_terminal (old ++ more) p b ∙ sym (value_terminal old p b)
  value_append p zero (Place j) le h = absurd (omega arith)
  value_append p (suc k) (Place j) le h =
      elim (slice_get_cases old j).1 [
        | inl found ↦ at found.0 found.2 (λ r f. value_append p k r (omega arith) f)
        | inr past ↦ absurd (omega arith)
      ]
    where
      at : (node : Node) → slice_get old j ≡ Some node → ((r : Ref) → IsBefore k r → value (old ++ more) r p ≡ value old r p) →
          value (old ++ more) (Place j) p ≡ value old (Place j) p
      at node e r =
          let c = child_at p node in
          value_place n (graph_of (old ++ more)) (diagram_of n (old ++ more) all) p j node (get_left old more j (omega arith) ∙ e)
          ∙ r c (before_more j k c (omega arith) (child_before n (graph_of old) (diagram_of n old fit) j node (bit p node.variable) e))
          ∙ sym (value_place n (graph_of old) (diagram_of n old fit) p j node e)
