-- A diagram made of the nodes that some roots reach: each node of the diagram is the copy of a place, after the copies of its children.
--     numbers      for each place 1 more than the place of its copy; 0 if it has none
--     words_in, HasNodes      the words of a closed table's first places, which are those of nodes
--     ref_of, node_of      the ref of an id, and the copy of a node's word
--     AreCopied      the copies made so far
--     Copies      what copying one more id does
use Rattle.std.specs.Prelude.{◌≡◌, ◌≢◌, ℕ, zero, suc, ◌+◌, ◌-◌, ◌^◌, ◌<◌, ◌≤◌, ◌==◌, nat_lt, if◌then◌else◌, Some, List, [], ◌∷◌, length, slice_index, slice_get, take}
use Rattle.std.specs.Slots.{slots_items, slots_len, IsFull}
use Rattle.std.proofs.Common.{Global}
use Rattle.atomic_table.specs.declared.owned.Closed.{Closed}
use Rattle.definitions.specs.declared.refs.Ref.{Ref}
use Rattle.definitions.specs.declared.refs.Ref.TheVariants.{Terminal, Place}
use Rattle.definitions.specs.declared.refs.Node.{Node}
use Rattle.definitions.specs.Functions.{Function}
use Rattle.definitions.specs.Diagrams.{IsChild, Reached, Represents, IsReduced}
use Rattle.node_words.specs.Nodes.{IsKnown, AreNodeWords, Grows, level_of, low_of, high_of}
use Rattle.node_words.specs.Meaning.{depth}

-- the words of the first places of a closed table
abbrev pub words_in : Closed (Unit {0}) Global → ℕ → List ℕ
words_in closed places = take places (slots_items closed.words)

-- the first `places` words of a closed table are words of nodes, which are on `levels` levels
pub record HasNodes (closed : Closed (Unit {0}) Global) (places levels : ℕ) : Type 0 where
  pub full : IsFull closed.words
  pub inside : places ≤ slots_len closed.words
  pub few : places < 2 ^ 20
  pub few_levels : levels ≤ 16
  pub nodes : AreNodeWords levels (words_in closed places)

-- the ref of an id whose place has a copy
abbrev pub ref_of : List ℕ → ℕ → Ref
ref_of numbers id = if nat_lt id 2 then Terminal (id == 1) else Place (slice_index numbers (id - 2) - 1)

-- the copy of a node's word
abbrev pub node_of : List ℕ → List ℕ → ℕ → Node
node_of order numbers w = record {
  variable = slice_index order (level_of w);
  low = ref_of numbers (low_of w);
  high = ref_of numbers (high_of w);
}

-- the id is a terminal, or its node has a copy that stands before the copy of place p
abbrev pub IsEarlier : List ℕ → ℕ → ℕ → Type 0
IsEarlier numbers p id = 2 ≤ id →
    (slice_index numbers (id - 2) ≢ 0) × (slice_index numbers (id - 2) < slice_index numbers p)

-- the copy of place p
pub record IsCopied (order ws numbers : List ℕ) (nodes : List Node) (p : ℕ) : Type 0 where
  pub full : slice_index ws p ≢ 0
  pub low : IsEarlier numbers p (low_of (slice_index ws p))
  pub high : IsEarlier numbers p (high_of (slice_index ws p))
  pub node : slice_get nodes (slice_index numbers p - 1) ≡ Some (node_of order numbers (slice_index ws p))

-- how many places have no copy
abbrev pub blank : ℕ → ℕ
blank zero = 1
blank (suc n) = 0

unfoldable pub blanks : List ℕ → ℕ
blanks [] = 0
blanks (x ∷ xs) = blank x + blanks xs

-- the copies made so far: each place with a number has a copy, and each node of the list is a copy
pub record AreCopied (order ws numbers : List ℕ) (nodes : List Node) : Type 0 where
  pub size : length numbers ≡ length ws
  pub copied : (p : ℕ) → slice_index numbers p ≢ 0 → IsCopied order ws numbers nodes p
  pub placed : (k : ℕ) → k < length nodes → (p : ℕ) × (slice_index numbers p ≡ k + 1)
  pub small : (p : ℕ) → slice_index numbers p ≤ length nodes
  pub unequal : (p q : ℕ) → slice_index numbers p ≢ 0 → slice_index numbers p ≡ slice_index numbers q → p ≡ q
  pub count : length nodes + blanks numbers ≡ length numbers

-- a ref to which a path leads from the ref r
pub data HasPath (nodes : List Node) (r : Ref) : Ref → Type 0 where
  here : {q : Ref} → r ≡ q → HasPath nodes r q
  below : {q : Ref} → (k : ℕ) (node : Node) → HasPath nodes r (Place k) → slice_get nodes k ≡ Some node → IsChild q node →
      HasPath nodes r q

-- the second list of nodes begins with the first one
pub record Extends (nodes nodes' : List Node) : Type 0 where
  pub longer : length nodes ≤ length nodes'
  pub same : (k : ℕ) → k < length nodes → slice_get nodes' k ≡ slice_get nodes k

-- copying the nodes that an id reaches: the id has a copy then, paths lead from this to all new nodes, and no place on a level above got a copy
pub record Copies (order ws numbers : List ℕ) (nodes : List Node) (numbers' : List ℕ) (nodes' : List Node) (id : ℕ)
    (r : Ref) : Type 0 where
  pub copied : AreCopied order ws numbers' nodes'
  pub known : IsKnown numbers' id
  pub ref : r ≡ ref_of numbers' id
  pub grows : Grows numbers numbers'
  pub extends : Extends nodes nodes'
  pub untouched : (q : ℕ) → level_of (slice_index ws q) < depth (length order) ws id →
      slice_index numbers' q ≡ slice_index numbers q
  pub leads : (k : ℕ) → length nodes ≤ k → k < length nodes' → HasPath nodes' r (Place k)

-- the refs are those of the first i ids, which have copies
pub record AreRefs (numbers : List ℕ) (refs : List Ref) (ids : List ℕ) (i : ℕ) : Type 0 where
  pub count : length refs ≡ i
  pub each : (j : ℕ) → j < i →
      (slice_get refs j ≡ Some (ref_of numbers (slice_index ids j))) × IsKnown numbers (slice_index ids j)

-- to each node a path leads from a root
abbrev pub AreReached : List Node → List Ref → Type 0
AreReached nodes roots = (k : ℕ) → k < length nodes → Reached record { nodes = nodes; roots = roots } (Place k)

-- a reduced diagram of the functions, ordered under the order
pub record IsReducedOf (n : ℕ) (F : List Function) (order : List ℕ) (nodes : List Node)
    (roots : List Ref) : Type 0 where
  pub represents : Represents n F order record { nodes = nodes; roots = roots }
  pub reduced : IsReduced record { nodes = nodes; roots = roots }
  pub few : length nodes < 2 ^ 32
