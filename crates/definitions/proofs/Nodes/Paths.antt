-- Paths in a diagram.
--     value_place      a node has the value of the child that the point takes
--     StandsFrom order nodes i r      a ref is a terminal, or a node whose variable stands at place i or below
--     independent      such a ref does not depend on a variable above place i
use Rattle.std.proofs.Common.{◌≡◌, ℕ, zero, suc, ◌<◌, ◌≤◌, Bool, true, false, cond, inl, inr, List, length, set, refl, sym, ap, ◌∙◌, arith, subst, slice_get, Option, Some, None}
use Rattle.std.proofs.lemmas.List.{get_or-set_other}
use Rattle.std.proofs.lemmas.Option.{slice_get_within, slice_get_cases}
use Rattle.definitions.specs.declared.refs.Ref.{Ref}
use Rattle.definitions.specs.declared.refs.Ref.TheVariants.{Terminal, Place}
use Rattle.definitions.specs.declared.refs.Node.{Node}
use Rattle.definitions.specs.Functions.{Point, bit}
use Rattle.definitions.specs.Orders.{place_in}
use Rattle.definitions.specs.Diagrams.{Graph, IsDiagram, IsBefore, IsOrdered, IsChild, child_at, child_of, next, after, is_one, value}

pub before_more : (j k : ℕ) (r : Ref) → j ≤ k → IsBefore j r → IsBefore k r
before_more j k (Terminal b) le h = tt
before_more j k (Place i) le h = omega arith

-- a child has each property of both
pub child_has : (P : Ref → Type 0) (b : Bool) (node : Node) → P node.low → P node.high → P (cond b node.high node.low)
child_has P true node l u = u
child_has P false node l u = l

pub child_is_before : (k : ℕ) (r : Ref) (node : Node) → IsChild r node → IsBefore k node.low → IsBefore k node.high → IsBefore k r
child_is_before k r node c l u = elim c [ inl e ↦ subst (IsBefore k) e l | inr e ↦ subst (IsBefore k) e u ]

module _ (n : ℕ) (d : Graph) (ok : IsDiagram n d) where
  pub child_before : (k : ℕ) (node : Node) (b : Bool) → slice_get d.nodes k ≡ Some node → IsBefore k (cond b node.high node.low)
  child_before k node b e = child_has (IsBefore k) b node (ok.nodes k node e).low (ok.nodes k node e).high

  -- from a place before k, the path has ended after k steps
  steady : (p : Point) (k : ℕ) (r : Ref) → IsBefore k r → after (suc k) d.nodes p r ≡ after k d.nodes p r
  unfolding after next child_of
  steady p zero (Terminal b) h = refl
  steady p zero (Place j) h = absurd (omega arith)
  steady p (suc k) (Terminal b) h = refl
  steady p (suc k) (Place j) h = by (slice_get d.nodes j) refl (λ r g. steady p k r g)
    where
      by : (o : Option Node) → slice_get d.nodes j ≡ o → ((r : Ref) → IsBefore k r → after (suc k) d.nodes p r ≡ after k d.nodes p r) →
          after (suc k) d.nodes p (child_of p o) ≡ after k d.nodes p (child_of p o)
      by None e r = r (Terminal false) tt
      by (Some node) e r = r (child_at p node) (before_more j k (child_at p node) (omega arith) (child_before j node (bit p node.variable) e))

  -- a node has the value of the child that the point takes
  pub value_place : (p : Point) (k : ℕ) (node : Node) → slice_get d.nodes k ≡ Some node → value d.nodes (Place k) p ≡ value d.nodes (child_at p node) p
  unfolding value after next child_of is_one
  value_place p k node e = grind (arith, slice_get_within, steady)

after_terminal : (nodes : List Node) (p : Point) (b : Bool) (k : ℕ) → after k nodes p (Terminal b) ≡ Terminal b
unfolding after next
after_terminal nodes p b zero = refl
after_terminal nodes p b (suc k) = after_terminal nodes p b k

pub value_terminal : (nodes : List Node) (p : Point) (b : Bool) → value nodes (Terminal b) p ≡ b
unfolding value is_one
value_terminal nodes p b = ap is_one (after_terminal nodes p b (length nodes))

-- a terminal, or a node whose variable stands at place i or below
unfoldable pub StandsFrom : List ℕ → List Node → ℕ → Ref → Type 0
StandsFrom order nodes i (Terminal b) = Unit {0}
StandsFrom order nodes i (Place k) = (node : Node) → slice_get nodes k ≡ Some node → i ≤ place_in order node.variable

pub stands_top : (order : List ℕ) (nodes : List Node) (r : Ref) → StandsFrom order nodes 0 r
unfolding StandsFrom
stands_top order nodes (Terminal b) = tt
stands_top order nodes (Place k) = λ node e. omega arith

pub stands_less : (order : List ℕ) (nodes : List Node) (i j : ℕ) (r : Ref) → i ≤ j → StandsFrom order nodes j r → StandsFrom order nodes i r
unfolding StandsFrom
stands_less order nodes i j (Terminal b) le h = tt
stands_less order nodes i j (Place k) le h = λ node e. omega arith

module _ (n : ℕ) (order : List ℕ) (d : Graph) (ok : IsDiagram n d) (ordered : IsOrdered order d) where
  child_stands_by : (k : ℕ) (node : Node) → slice_get d.nodes k ≡ Some node → (r : Ref) → IsChild r node →
      StandsFrom order d.nodes (suc (place_in order node.variable)) r
  unfolding StandsFrom IsOrdered
  child_stands_by k node e (Terminal b) c = tt
  child_stands_by k node e (Place j) c = λ child f. ordered j k child node f e c

  -- the children of a node stand below it
  pub child_stands : (k : ℕ) (node : Node) (b : Bool) → slice_get d.nodes k ≡ Some node →
      StandsFrom order d.nodes (suc (place_in order node.variable)) (cond b node.high node.low)
  child_stands k node b e = grind (arith, child_stands_by)

  -- a ref from place i on does not depend on a variable above
  pub independent : (i y : ℕ) → place_in order y < i → (b : Bool) (p : Point) (k : ℕ) (r : Ref) → k ≤ length d.nodes → IsBefore k r →
      StandsFrom order d.nodes i r →
      value d.nodes r (set p y b) ≡ value d.nodes r p
  unfolding StandsFrom
  independent i y above b p k (Terminal t) le h s = value_terminal d.nodes (set p y b) t ∙ sym (value_terminal d.nodes p t)
  independent i y above b p zero (Place j) le h s = absurd (omega arith)
  independent i y above b p (suc k) (Place j) le h s =
      elim (slice_get_cases d.nodes j).1 [
        | inl found ↦ at found.0 found.2 (λ r f g. independent i y above b p k r (omega arith) f g)
        | inr past ↦ absurd (omega arith)
      ]
    where
      at : (node : Node) → slice_get d.nodes j ≡ Some node →
          ((r : Ref) → IsBefore k r → StandsFrom order d.nodes i r → value d.nodes r (set p y b) ≡ value d.nodes r p) →
          value d.nodes (Place j) (set p y b) ≡ value d.nodes (Place j) p
      at node e r =
          let same = get_or-set_other p y node.variable b false (λ f. omega (arith, ap (place_in order) f)) in
          let c = child_at p node in
          value_place n d ok (set p y b) j node e
          ∙ ap (λ v. value d.nodes (cond v node.high node.low) (set p y b)) same
          ∙ r c (before_more j k c (omega arith) (child_before n d ok j node (bit p node.variable) e))
          (stands_less order d.nodes i (suc (place_in order node.variable)) c (omega arith)
          (child_stands j node (bit p node.variable) e))
          ∙ sym (value_place n d ok p j node e)
