-- Ordered decision diagrams with several roots, as lists of nodes (Bryant 1986: function graphs, ordered and reduced).
--     Graph, IsDiagram n d      nodes and roots; each ref is a terminal or an earlier place, each variable below n
--     value nodes r p      the terminal at the end of p's path from a ref
--     IsOrdered order d, IsOf n F d, IsReduced d      along the order; with a root for each function of F; without redundant, equal or unused nodes
--     FewestKeeping n F P size, IsFirstKeeping n F P order      the fewest nodes under the orders that keep the pairs, and the first order that has them
--     Fewest n F size, IsFirst n F order      the fewest nodes under any order, and the first order that has them
use Rattle.std.specs.Prelude.{◌≡◌, ◌≢◌, ℕ, zero, suc, Bool, false, if◌then◌else◌, List, [], length, ◌<◌, ◌≤◌, ◌⊎◌, slice_get, nat_eq}
use Rattle.std.specs.List.{AllZip, All, Contains, count_by}
use Rattle.std.specs.declared.option.Option.{Option}
use Rattle.std.specs.declared.option.Option.TheVariants.{Some, None}
use Rattle.std.specs.Cmp.Lexicographic.{slice_cmp}
use Rattle.std.specs.Ordering.{nat_cmp}
use Rattle.std.specs.declared.cmp.Ordering.TheVariants.{Greater}
use Rattle.definitions.specs.declared.refs.Ref.{Ref}
use Rattle.definitions.specs.declared.refs.Ref.TheVariants.{Terminal, Place}
use Rattle.definitions.specs.declared.refs.Node.{Node}
use Rattle.definitions.specs.Functions.{Point, Function, bit, SameFunction}
use Rattle.definitions.specs.Orders.{IsOrder, place_in}
use Rattle.definitions.specs.Pairs.{Pair, Keeps}

-- a list of nodes, and a root for each function
pub record Graph : Type 0 where
  pub nodes : List Node
  pub roots : List Ref

-- the child of a node on the path of a point: the high one if the point has 1 at the node's variable, else the low one
abbrev pub child_at : Point → Node → Ref
child_at p node = if bit p node.variable then node.high else node.low

-- the child, on the path of a point, of a node; if there is no node, terminal 0
unfoldable pub child_of : Point → Option Node → Ref
child_of p None = Terminal false
child_of p (Some node) = child_at p node

-- one step along a point's path
unfoldable pub next : List Node → Point → Ref → Ref
next nodes p (Terminal b) = Terminal b
next nodes p (Place k) = child_of p (slice_get nodes k)

-- the ref after a number of steps along a point's path
unfoldable pub after : ℕ → List Node → Point → Ref → Ref
after zero nodes p r = r
after (suc steps) nodes p r = after steps nodes p (next nodes p r)

-- whether a ref is terminal 1
unfoldable pub is_one : Ref → Bool
is_one (Terminal b) = b
is_one (Place k) = false

-- the value of a ref at a point: the terminal where the point's path ends, which has at most one step per node
unfoldable pub value : List Node → Ref → Function
value nodes r p = is_one (after (length nodes) nodes p r)

-- a ref is a terminal, or a place before k
abbrev pub IsBefore : ℕ → Ref → Type 0
IsBefore k (Terminal b) = Unit {0}
IsBefore k (Place j) = j < k

-- what a diagram requires of the node at place k
pub record IsNodeAt (n k : ℕ) (node : Node) : Type 0 where
  pub variable : node.variable < n
  pub low : IsBefore k node.low
  pub high : IsBefore k node.high

-- each ref of a node is a terminal or an earlier place, and each variable is below n
abbrev pub AreNodes : ℕ → List Node → Type 0
AreNodes n nodes = (k : ℕ) (node : Node) → slice_get nodes k ≡ Some node → IsNodeAt n k node

-- a diagram over n variables: each ref of a node is a terminal or an earlier place
pub record IsDiagram (n : ℕ) (d : Graph) : Type 0 where
  pub nodes : AreNodes n d.nodes
  pub roots : All (IsBefore (length d.nodes)) d.roots

-- r is one of the node's two refs
abbrev pub IsChild : Ref → Node → Type 0
IsChild r node = (node.low ≡ r) ⊎ (node.high ≡ r)

-- each child's variable stands after its parent's in the order
unfoldable pub IsOrdered : List ℕ → Graph → Type 0
IsOrdered order d = (j k : ℕ) (child parent : Node) → slice_get d.nodes j ≡ Some child →
    slice_get d.nodes k ≡ Some parent → IsChild (Place j) parent →
    place_in order parent.variable < place_in order child.variable

-- root j has the value of function j at each point
unfoldable pub IsOf : ℕ → List Function → Graph → Type 0
IsOf n F d = AllZip (λ r f. SameFunction n (value d.nodes r) f) d.roots F

-- a ref that a path from a root comes to
pub data Reached (d : Graph) : Ref → Type 0 where
  from_root : {r : Ref} → Contains d.roots r → Reached d r
  from_parent : {r : Ref} → (k : ℕ) (node : Node) → Reached d (Place k) → slice_get d.nodes k ≡ Some node →
      IsChild r node → Reached d r

-- reduced: no node is redundant, no two are equal, each one is reached from a root
pub record IsReduced (d : Graph) : Type 0 where
  pub not_redundant : (k : ℕ) (node : Node) → slice_get d.nodes k ≡ Some node → node.low ≢ node.high
  pub no_two_equal : (j k : ℕ) (node : Node) → slice_get d.nodes j ≡ Some node → slice_get d.nodes k ≡ Some node → j ≡ k
  pub all_reached : (k : ℕ) → k < length d.nodes → Reached d (Place k)

-- a diagram of F, ordered under the order
pub record Represents (n : ℕ) (F : List Function) (order : List ℕ) (d : Graph) : Type 0 where
  pub diagram : IsDiagram n d
  pub ordered : IsOrdered order d
  pub functions : IsOf n F d

-- the fewest nodes under the orders that keep the pairs: some such order has a diagram of F of that size, and none has a smaller one
pub record FewestKeeping (n : ℕ) (F : List Function) (P : List Pair) (size : ℕ) : Type 0 where
  pub some : (order : List ℕ) × (d : Graph) × IsOrder n order × Keeps P order × Represents n F order d
      × (length d.nodes ≡ size)
  pub no_fewer : (order : List ℕ) (d : Graph) → IsOrder n order → Keeps P order → Represents n F order d →
      size ≤ length d.nodes

-- the order keeps the pairs, and under it a diagram of F of the fewest nodes exists
pub record HasFewestKeeping (n : ℕ) (F : List Function) (P : List Pair) (order : List ℕ) : Type 0 where
  pub is_order : IsOrder n order
  pub kept : Keeps P order
  pub fewest : (d : Graph) × Represents n F order d × FewestKeeping n F P (length d.nodes)

-- the first of the orders that keep the pairs and have a diagram of F of the fewest nodes, compared as lists of numbers
pub record IsFirstKeeping (n : ℕ) (F : List Function) (P : List Pair) (order : List ℕ) : Type 0 where
  pub fewest : HasFewestKeeping n F P order
  pub first : (other : List ℕ) → HasFewestKeeping n F P other → slice_cmp nat_cmp order other ≢ Greater

-- the fewest nodes under any order
abbrev pub Fewest : ℕ → List Function → ℕ → Type 0
Fewest n F size = FewestKeeping n F [] size

-- the first of all orders under which a diagram of F of the fewest nodes exists
abbrev pub IsFirst : ℕ → List Function → List ℕ → Type 0
IsFirst n F order = IsFirstKeeping n F [] order

-- how many nodes of a list are nodes of the variable
abbrev pub variable_count : List Node → ℕ → ℕ
variable_count nodes x = count_by (λ (node : Node). nat_eq node.variable x) nodes

-- how many nodes of a diagram are nodes of the variable
unfoldable pub nodes_at : Graph → ℕ → ℕ
nodes_at d x = variable_count d.nodes x
