-- What contracts see of a store and of a session.
--     StoreId      a store: its table and its plan
--     Knowledge      a session: its store and its stake in it, the words that it knows, and its counts of steps and writes
--     Knows s id, function_in s id, depth_in s id, Means s id f      the ids that a session knows
--     combined_in s operation a b      an operation on the functions of two ids
--     LiesNoHigher s a b id      an id lies no higher than the higher one of two others
--     HasUniqueIds s      ids that a session knows are equal if they denote the same function
--     HasLevels s      no id that a session knows lies below the terminals
--     HasPiece s q id      the session knows that the piece has the id
--     IsAlone s, AloneStaysAlone      no other session of the store is left; a session that is alone stays alone
--     MadeAll s      a session that is alone put each node that it knows, or was split or joined from sessions that did
--     GainsOnly made made' w      no word was put into the store but w
--     Follows s s'      a session goes on: what it knew it still knows
--     GoesOn s s' most      a session goes on by at most `most` steps
--     MakesStep s s' wrote      a session goes on by one step
--     HasParts s id parts      the level and the children of a node
--     IsNodeOf s level low high id      the id of the node with a level and children
--     MeetsFull s s' word      a session sees that a word has no place
use Rattle.std.specs.Prelude.{◌≡◌, ◌≢◌, ℕ, ◌+◌, ◌-◌, ◌<◌, ◌≤◌, ◌⊎◌, List, slice_index}
use Rattle.std.specs.List.{Contains}
use Rattle.atomic_table.specs.Seated.{TableId}
use Rattle.definitions.specs.Functions.{Point, Function}
use Rattle.node_words.specs.declared.operation.Operation.{Operation}
use Rattle.node_words.specs.declared.words.NodeParts.{NodeParts}
use Rattle.node_words.specs.Entries.{combine}
use Rattle.node_words.specs.Nodes.{IsKnown, IsIdOf, IsFullFor, Grows, node_word}
use Rattle.node_words.specs.Meaning.{function_of, Denotes, depth, branch}
use Rattle.unique_table.specs.declared.plan.Plan.{Plan}
use Rattle.unique_table.specs.declared.session.Stake.{Stake}
use Rattle.unique_table.specs.Plans.{order_of, levels_of, variable_at}
use Rattle.unique_table.specs.Stakes.{IsWhole, IsNoLess}
use Rattle.unique_table.specs.Invariant.{AreMade}

-- a store: which table it is, and what it is for
pub record StoreId : Type 0 where
  pub table : TableId
  pub plan : Plan

-- a session: its store and its stake in it, the node words and piece words that it knows, the node words that it put, or a
-- session from which it comes, and how many steps and writes it made
pub record Knowledge : Type 0 where
  pub store : StoreId
  pub stake : Stake
  pub seen : List ℕ
  pub made : List ℕ
  pub pieces : List ℕ
  pub steps : ℕ
  pub writes : ℕ

-- the session knows the id: a terminal, or a place that it saw filled
abbrev pub Knows : Knowledge → ℕ → Type 0
Knows s id = IsKnown s.seen id

-- the function that a known id denotes
abbrev pub function_in : Knowledge → ℕ → Function
function_in s id = function_of (order_of s.store.plan) s.seen id

-- an operation on the functions that two known ids denote
abbrev pub combined_in : Knowledge → Operation → ℕ → ℕ → Function
combined_in s operation a b = combine operation (function_in s a) (function_in s b)

-- the session knows the id, and it denotes f
abbrev pub Means : Knowledge → ℕ → Function → Type 0
Means s id f = Denotes (order_of s.store.plan) s.seen id f

-- the level of a known id; a terminal lies below all levels
abbrev pub depth_in : Knowledge → ℕ → ℕ
depth_in s id = depth (levels_of s.store.plan) s.seen id

-- the id lies no higher than the higher one of two others
abbrev pub LiesNoHigher : Knowledge → ℕ → ℕ → ℕ → Type 0
LiesNoHigher s a b id = (k : ℕ) → k ≤ depth_in s a → k ≤ depth_in s b → k ≤ depth_in s id

-- the session knows the id, and it lies below the level
abbrev pub IsKnownBelow : Knowledge → ℕ → ℕ → Type 0
IsKnownBelow s level id = Knows s id × (level < depth_in s id)

-- two ids that the session knows are equal if they denote the same function
abbrev pub HasUniqueIds : Knowledge → Type 0
HasUniqueIds s = (id other : ℕ) (f : Function) → Means s id f → Means s other f → id ≡ other

-- each id that the session knows lies at a level or is a terminal
abbrev pub HasLevels : Knowledge → Type 0
HasLevels s = (id : ℕ) → Knows s id → depth_in s id ≤ levels_of s.store.plan

-- the session knows the piece's id
abbrev pub HasPiece : Knowledge → ℕ → ℕ → Type 0
HasPiece s q id = slice_index s.pieces q ≡ id + 1

-- no other session of the store is left: the store was never split, or all others were joined into this one
abbrev pub IsAlone : Knowledge → Type 0
IsAlone s = IsWhole s.stake

-- if no other session is left, the node words that a session knows were all put by it, or by sessions that it was split or joined from
abbrev pub MadeAll : Knowledge → Type 0
MadeAll s = IsAlone s → AreMade s.made s.seen

-- no word was put but w
abbrev pub GainsOnly : List ℕ → List ℕ → ℕ → Type 0
GainsOnly made made' w = (x : ℕ) → Contains made' x → (x ≡ w) ⊎ Contains made x

-- a session goes on: it knows all that it knew and has no smaller stake, and ids keep their functions and levels
pub record Follows (s s' : Knowledge) : Type 0 where
  pub store : s'.store ≡ s.store
  pub stake : IsNoLess s.stake s'.stake
  pub nodes : Grows s.seen s'.seen
  pub pieces : Grows s.pieces s'.pieces
  pub knows : (id : ℕ) → Knows s id → Knows s' id
  pub functions : (id : ℕ) (p : Point) → Knows s id → function_in s' id p ≡ function_in s id p
  pub means : (id : ℕ) (f : Function) → Means s id f → Means s' id f
  pub depths : (id : ℕ) → Knows s id → depth_in s' id ≡ depth_in s id

-- a session that is alone stays alone
abbrev pub AloneStaysAlone : Type 0
AloneStaysAlone = (s s' : Knowledge) → Follows s s' → IsAlone s → IsAlone s'

-- a session goes on by at most `most` steps, with the stake that it had; its ids are unique
pub record GoesOn (s s' : Knowledge) (most : ℕ) : Type 0 where
  pub follows : Follows s s'
  pub stake : s'.stake ≡ s.stake
  pub unique : HasUniqueIds s'
  pub steps : s'.steps ≤ s.steps + most

-- a session goes on by one step, which wrote `wrote` words, none of a node; its ids are unique
pub record MakesStep (s s' : Knowledge) (wrote : ℕ) : Type 0 where
  pub follows : Follows s s'
  pub stake : s'.stake ≡ s.stake
  pub unique : HasUniqueIds s'
  pub made : s'.made ≡ s.made
  pub steps : s'.steps ≡ s.steps + 1
  pub writes : s'.writes ≡ s.writes + wrote

-- the parts of a known node: its level, and two unequal children below this level, whose functions are the cofactors of the node's function
pub record HasParts (s : Knowledge) (id : ℕ) (parts : NodeParts) : Type 0 where
  pub word : slice_index s.seen (id - 2) ≡ node_word parts.level parts.low parts.high
  pub level : depth_in s id ≡ parts.level
  pub inside : parts.level < levels_of s.store.plan
  pub unequal : parts.low ≢ parts.high
  pub low : IsKnownBelow s parts.level parts.low
  pub high : IsKnownBelow s parts.level parts.high
  pub function : (p : Point) →
      function_in s id p ≡ branch (variable_at s.store.plan parts.level) (function_in s parts.low)
      (function_in s parts.high) p

-- the id of the node with this level and these children, or of the child if both are equal; the id lies at the level or below
pub record IsNodeOf (s : Knowledge) (level low high id : ℕ) : Type 0 where
  pub word : IsIdOf s.seen level low high id
  pub function : Means s id (branch (variable_at s.store.plan level) (function_in s low) (function_in s high))
  pub depth : level ≤ depth_in s id

-- a session sees that each place for a word is taken by another, and writes nothing
pub record MeetsFull (s s' : Knowledge) (word : ℕ) : Type 0 where
  pub full : IsFullFor s'.seen s'.store.plan.places word
  pub writes : s'.writes ≡ s.writes
