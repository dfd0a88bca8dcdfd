-- What closing a store finds.
--     ClosedStoreOf      a closed store: what it was for, and the words that it ended with
--     root_word c j, root_id c j, root_functions c      the root words, the ids in them, and the functions that these denote
--     HasAllRoots c, LacksRoot c fault      each root word is filled; the least root word that is empty
--     AreFinal c, IsFinalStore s c      words that a store may end with, and those that agree with what a session knows
--     IsMissingRoot s j, MayLackRoot s fault      a root that is missing to a session, and why a store gives the session no diagram
--     SessionsLackWhatIsEmpty      the least root that the last words lack is missing to the session
use Rattle.std.specs.Prelude.{◌≡◌, ◌≢◌, ℕ, ◌+◌, ◌-◌, ◌<◌, List, length, slice_index, map}
use Rattle.std.specs.List.{range_with_len}
use Rattle.definitions.specs.Functions.{Function}
use Rattle.definitions.specs.Problems.{outputs_of}
use Rattle.node_words.specs.Nodes.{AreStored, Grows}
use Rattle.node_words.specs.Meaning.{function_of}
use Rattle.unique_table.specs.declared.close.CloseFault.{CloseFault}
use Rattle.unique_table.specs.declared.close.CloseFault.TheVariants.{MissingRoot, OutOfMemory}
use Rattle.unique_table.specs.declared.plan.Plan.{Plan}
use Rattle.unique_table.specs.Plans.{order_of, levels_of}
use Rattle.unique_table.specs.Invariant.{nodes_of, pieces_of, AreEntries, ArePieces}
use Rattle.unique_table.specs.Sessions.{Knowledge, IsAlone}

-- a closed store: what it was for, and the words that it ended with
pub record ClosedStoreOf : Type 0 where
  pub plan : Plan
  pub words : List ℕ

-- how many roots there are, and the place of the word of root 0
abbrev pub roots_count : Plan → ℕ
roots_count b = outputs_of b.problem.value

abbrev pub first_root : Plan → ℕ
first_root b = b.places + b.entries + b.roots

-- the word of root j, and the id in it
abbrev pub root_word : ClosedStoreOf → ℕ → ℕ
root_word c j = slice_index c.words (first_root c.plan + j)

abbrev pub root_id : ClosedStoreOf → ℕ → ℕ
root_id c j = root_word c j - 1

-- the functions that the ids in the root words denote
abbrev pub root_functions : ClosedStoreOf → List Function
root_functions c = map (λ j. function_of (order_of c.plan) (nodes_of c.plan c.words) (root_id c j))
    (range_with_len 0 (roots_count c.plan))

-- the words of the first m roots are filled
abbrev pub AreFilled : ClosedStoreOf → ℕ → Type 0
AreFilled c m = (j : ℕ) → j < m → root_word c j ≢ 0

abbrev pub HasAllRoots : ClosedStoreOf → Type 0
HasAllRoots c = AreFilled c (roots_count c.plan)

-- the root is the least whose word is empty
abbrev pub IsLeastEmptyRoot : ClosedStoreOf → ℕ → Type 0
IsLeastEmptyRoot c j = (j < roots_count c.plan) × (root_word c j ≡ 0) × AreFilled c j

abbrev pub LacksRoot : ClosedStoreOf → CloseFault → Type 0
LacksRoot c (MissingRoot j) = IsLeastEmptyRoot c j
LacksRoot c OutOfMemory = Unit {0}

-- words that a store may end with
pub record AreFinal (c : ClosedStoreOf) : Type 0 where
  pub size : length c.words ≡ c.plan.places + c.plan.entries + c.plan.pieces
  pub stored : AreStored (levels_of c.plan) c.plan.places (nodes_of c.plan c.words)
  pub entries : AreEntries c.plan (nodes_of c.plan c.words) c.words
  pub pieces : ArePieces c.plan (nodes_of c.plan c.words) (pieces_of c.plan c.words)

-- words that the store of a session may end with: they agree with what the session knows
pub record IsFinalStore (s : Knowledge) (c : ClosedStoreOf) : Type 0 where
  pub plan : c.plan ≡ s.store.plan
  pub final : AreFinal c
  pub seen : Grows s.seen (nodes_of c.plan c.words)
  pub has : Grows s.pieces (pieces_of c.plan c.words)
  pub all : IsAlone s → Grows (pieces_of c.plan c.words) s.pieces

-- the root's word as the session knows it: 0 if it doesn't know the root to be published
abbrev pub known_root : Knowledge → ℕ → ℕ
known_root s j = slice_index s.pieces (s.store.plan.roots + j)

-- the root is missing: it is the least that is empty in the last words, and the session doesn't know it to be published; if no
-- other session is left, the session knows each root before it
pub record IsMissingRoot (s : Knowledge) (j : ℕ) : Type 0 where
  pub unknown : known_root s j ≡ 0
  pub least : IsAlone s → (i : ℕ) → i < j → known_root s i ≢ 0
  pub last : ClosedStoreOf
  pub is_last : IsFinalStore s last
  pub empty : IsLeastEmptyRoot last j

abbrev pub MayLackRoot : Knowledge → CloseFault → Type 0
MayLackRoot s (MissingRoot j) = IsMissingRoot s j
MayLackRoot s OutOfMemory = Unit {0}

-- the least root that is empty in the last words of a session's store is missing to the session
abbrev pub SessionsLackWhatIsEmpty : Type 0
SessionsLackWhatIsEmpty = (s : Knowledge) (c : ClosedStoreOf) (fault : CloseFault) → IsFinalStore s c → LacksRoot c fault → MayLackRoot s fault
