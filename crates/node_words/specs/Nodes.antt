-- The words of nodes, and lists of such words.
--     node_word, level_of, low_of, high_of      a node's word and its parts; id p + 2 is the node at place p, ids 0 and 1 are the terminals
--     home, probe      the places that the search for a word comes to
--     IsNode, AreNodeWords, AreUnequal, AreStored      lists of words that are nodes, no two of them equal
--     Grows      places that were filled keep their words
use Rattle.std.specs.Prelude.{◌≡◌, ◌≢◌, ℕ, ◌+◌, ◌-◌, ◌*◌, ◌/◌, ◌%◌, ◌^◌, ◌<◌, ◌≤◌, ◌==◌, nat_lt, if◌then◌else◌, List, length, slice_index, bit_xor, MatchBool}

-- the word of a node: its level, and the ids of its two children
abbrev pub node_word : ℕ → ℕ → ℕ → ℕ
node_word level low high = 2 ^ 44 + level * 2 ^ 40 + low * 2 ^ 20 + high

-- the parts of a node's word
abbrev pub level_of : ℕ → ℕ
level_of w = (w / 2 ^ 40) % 16

abbrev pub low_of : ℕ → ℕ
low_of w = (w / 2 ^ 20) % 2 ^ 20

abbrev pub high_of : ℕ → ℕ
high_of w = w % 2 ^ 20

-- the word with its bits mixed
unfoldable pub mixed : ℕ → ℕ
mixed w =
    let a : ℕ = (bit_xor w (w / 2 ^ 32) * 11400714819323198485) % 2 ^ 64 in
    (bit_xor a (a / 2 ^ 29) * 13787848793156543929) % 2 ^ 64

-- where the search for a word starts
unfoldable pub home : ℕ → ℕ → ℕ
home places w = (mixed w / 2 ^ 32) * places / 2 ^ 32

-- the place that the search for a word comes to after k other places
abbrev pub probe : ℕ → ℕ → ℕ → ℕ
probe places w k = if nat_lt (home places w + k) places then home places w + k else home places w + k - places

-- the id is a terminal, or that of a filled place
abbrev pub IsKnown : List ℕ → ℕ → Type 0
IsKnown ws id = 2 ≤ id → slice_index ws (id - 2) ≢ 0

-- the id is a terminal, or that of a filled place of a level below
abbrev pub IsBelow : List ℕ → ℕ → ℕ → Type 0
IsBelow ws level id = 2 ≤ id → (slice_index ws (id - 2) ≢ 0) × (level < level_of (slice_index ws (id - 2)))

-- a node: its level is one of the levels, and its children are unequal and lie below
pub record IsNode (levels : ℕ) (ws : List ℕ) (w : ℕ) : Type 0 where
  pub word : w ≡ node_word (level_of w) (low_of w) (high_of w)
  pub level : level_of w < levels
  pub unequal : low_of w ≢ high_of w
  pub low : IsBelow ws (level_of w) (low_of w)
  pub high : IsBelow ws (level_of w) (high_of w)

-- each filled word is a node
abbrev pub AreNodeWords : ℕ → List ℕ → Type 0
AreNodeWords levels ws = (p : ℕ) → slice_index ws p ≢ 0 → IsNode levels ws (slice_index ws p)

-- no two filled places hold equal words
abbrev pub AreUnequal : List ℕ → Type 0
AreUnequal ws = (p q : ℕ) → slice_index ws p ≢ 0 → slice_index ws p ≡ slice_index ws q → p ≡ q

-- the places that the search for w passes before it comes to p are filled
pub record IsReached (places : ℕ) (ws : List ℕ) (w p : ℕ) : Type 0 where
  pub passed : ℕ
  pub here : p ≡ probe places w passed
  pub before : (j : ℕ) → j < passed → slice_index ws (probe places w j) ≢ 0

-- places that were filled keep their words
abbrev pub Grows : List ℕ → List ℕ → Type 0
Grows xs ys = (p : ℕ) → slice_index xs p ≢ 0 → slice_index ys p ≡ slice_index xs p

-- the node words of a store
pub record AreStored (levels places : ℕ) (ws : List ℕ) : Type 0 where
  pub size : length ws ≡ places
  pub nodes : AreNodeWords levels ws
  pub unequal : AreUnequal ws
  pub reached : (p : ℕ) → slice_index ws p ≢ 0 → IsReached places ws (slice_index ws p) p

-- the place is taken by another word
abbrev pub IsTaken : List ℕ → ℕ → ℕ → Type 0
IsTaken ws w p = (slice_index ws p ≢ 0) × (slice_index ws p ≢ w)

-- each place is taken by another word
abbrev pub IsFullFor : List ℕ → ℕ → ℕ → Type 0
IsFullFor ws places w = (p : ℕ) → p < places → IsTaken ws w p

-- the place comes next in the search for w: the places before are taken by other words
pub record IsNextProbe (ws : List ℕ) (places w p : ℕ) : Type 0 where
  pub passed : ℕ
  pub here : p ≡ probe places w passed
  pub before : (j : ℕ) → j < passed → IsTaken ws w (probe places w j)

-- the id is that of the node with this level and these children, or of the child if both are equal
abbrev pub IsIdOf : List ℕ → ℕ → ℕ → ℕ → ℕ → Type 0
IsIdOf ws level low high id = MatchBool (low == high) (id ≡ low)
    ((2 ≤ id) × (slice_index ws (id - 2) ≡ node_word level low high))
