-- Levels of a diagram, by the numbers of their refs.
--     ref_named c      the ref with a number
--     node_over x u      the node of variable x with the two refs of a pair
--     node_named node, children_from base nodes      the node that a numbered one stands for; the numbers of the children of those from place `base` on
--     IsNumberOf base keys u c      the number of the ref that has the refs of a pair as its children
--     Seeks base x u keys keys' nodes nodes' c      the ref for a pair of children is found, or a node for it is appended
--     SeeksAmong base x u nodes nodes' c      the same of numbered nodes, those of variable x standing from place `base` on
--     IsTabled base keys table      a table has the numbers of the refs for the pairs of the first four refs
--     IsNumbered x old pairs keys nodes numbers, IsLevelAbove x old below nodes above      the refs of a level
use Rattle.std.specs.Prelude.{◌≡◌, ◌≢◌, ℕ, ◌+◌, ◌*◌, ◌<◌, ◌≤◌, ◌⊎◌, false, List, [], ◌∷◌, ◌++◌, drop, length, map, slice_index, get_or, slice_get}
use Rattle.std.specs.List.{IsDistinct}
use Rattle.std.specs.declared.option.Option.TheVariants.{Some}
use Rattle.definitions.specs.Widths.{same_pair}
use Rattle.definitions.specs.declared.refs.Node.{Node}
unfoldable pub use Rattle.definitions.specs.RefNumbers.{ref_named}
use Rattle.truth_table.specs.Numberings.{pairs_of}
use Rattle.truth_table.specs.declared.levels.NumberedNode.{NumberedNode}

-- the node of variable x with the two refs of a pair
abbrev pub node_over : ℕ → ℕ × ℕ → Node
node_over x u = record { variable = x; low = ref_named u.0; high = ref_named u.1 }

-- the node that a numbered one stands for
abbrev pub node_named : NumberedNode → Node
node_named node = record { variable = node.variable; low = ref_named node.low; high = ref_named node.high }

abbrev pub children_of : NumberedNode → ℕ × ℕ
children_of node = (node.low, node.high)

-- the numbers of the children of the nodes from a place on
unfoldable pub children_from : ℕ → List NumberedNode → List (ℕ × ℕ)
children_from base nodes = map children_of (drop base nodes)

-- the number of the child, if both children are equal; else that of the node made for the pair: the level's nodes stand from place `base` on
abbrev pub IsNumberOf : ℕ → List (ℕ × ℕ) → ℕ × ℕ → ℕ → Type 0
IsNumberOf base keys u c = ((u.0 ≡ u.1) × (c ≡ u.0))
    ⊎ ((u.0 ≢ u.1) × ((i : ℕ) × (slice_get keys i ≡ Some u) × (c ≡ base + i + 2)))

-- a pair of unequal children gets a node, unless it has one
pub record Seeks (base x : ℕ) (u : ℕ × ℕ) (keys keys' : List (ℕ × ℕ)) (nodes nodes' : List Node) (c : ℕ) : Type 0 where
  pub number : IsNumberOf base keys' u c
  pub once : IsDistinct same_pair keys → IsDistinct same_pair keys'
  pub more : ((keys' ≡ keys) × (nodes' ≡ nodes))
      ⊎ ((u.0 ≢ u.1) × (keys' ≡ keys ++ u ∷ []) × (nodes' ≡ nodes ++ node_over x u ∷ []) × (c ≡ base + length keys + 2))

-- the same of numbered nodes, those of the level standing from a place on
abbrev pub SeeksAmong : ℕ → ℕ → ℕ × ℕ → List NumberedNode → List NumberedNode → ℕ → Type 0
SeeksAmong base x u nodes nodes' c =
    Seeks base x u (children_from base nodes) (children_from base nodes') (map node_named nodes) (map node_named nodes') c

-- the numbers of the refs for all pairs of the first four refs: at place 4 * u.0 + u.1 that for the pair u, and 2 ^ 32 - 1 if the pair has no node
pub record IsTabled (base : ℕ) (keys : List (ℕ × ℕ)) (table : List ℕ) : Type 0 where
  pub numbered : (u : ℕ × ℕ) → u.0 < 4 → u.1 < 4 → get_or table (4 * u.0 + u.1) 0 ≢ 4294967295 → IsNumberOf base keys u (get_or table (4 * u.0 + u.1) 0)
  pub missing : (u : ℕ × ℕ) → u.0 < 4 → u.1 < 4 → get_or table (4 * u.0 + u.1) 0 ≡ 4294967295 →
      (u.0 ≢ u.1) × ((k : ℕ) → k < length keys → same_pair u (get_or keys k (0, 0)) ≡ false)

-- the refs of some pairs have these numbers, and the level's nodes are those of the keys
pub record IsNumbered (x : ℕ) (old : List Node) (pairs keys : List (ℕ × ℕ)) (nodes : List Node) (numbers : List ℕ) : Type 0 where
  pub nodes_are : nodes ≡ old ++ map (node_over x) keys
  pub once : IsDistinct same_pair keys
  pub few : length keys ≤ length pairs
  pub long : length numbers ≡ length pairs
  pub named : (k : ℕ) → k < length pairs → IsNumberOf (length old) keys (get_or pairs k (0, 0)) (slice_index numbers k)
  pub used : (i : ℕ) (u : ℕ × ℕ) → slice_get keys i ≡ Some u →
      (u.0 ≢ u.1) × ((k : ℕ) × (k < length pairs) × (get_or pairs k (0, 0) ≡ u) × (slice_index numbers k ≡ length old + i + 2))

-- the refs of a level over those of the level below
pub record IsLevelAbove (x : ℕ) (old : List Node) (below : List ℕ) (nodes : List Node) (above : List ℕ) : Type 0 where
  pub keys : List (ℕ × ℕ)
  pub numbered : IsNumbered x old (pairs_of below) keys nodes above
