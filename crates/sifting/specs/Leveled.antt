-- Diagrams by levels: each level has a node for each function that is left over, so each edge goes to the next level.
--     Children, at L k      the places of a node's children on the next level; those of node k of a level
--     place_below, function_at      the place that a point's path comes to below some levels, and the function of a place on the top level
--     branching L      how many nodes have two different children
--     HasChildren below L, IsLevel below L, AreLevels      each node once, with its children on the next level, and each place there is a child
--     NumbersFirst      nodes over the numbers of keys
--     SwapsLevels      two adjacent levels, and what they become when their variables are swapped
use Rattle.std.specs.Prelude.{◌≡◌, ℕ, ◌*◌, ◌<◌, ◌≤◌, Bool, true, false, not, if◌then◌else◌, ◌⊎◌, List, [], ◌∷◌, length, slice_index, get_or, nat_eq}
use Rattle.std.specs.List.{count_by}
use Rattle.definitions.specs.Functions.{Point, Function, bit}

-- the places of a node's low and high child
abbrev pub Children : Type 0
Children = ℕ × ℕ

-- the child of a node for a value of its variable: the high child for 1, else the low one
abbrev pub child : Bool → Children → ℕ
child b c = if b then c.1 else c.0

-- the children of node k
abbrev pub at : List Children → ℕ → Children
at L k = get_or L k (0, 0)

-- the place that a point's path comes to below some levels, from place k on the top level
unfoldable pub place_below : List (List Children) → List ℕ → ℕ → Point → ℕ
place_below [] order k p = k
place_below (L ∷ levels) [] k p = k
place_below (L ∷ levels) (x ∷ order) k p = place_below levels order (child (bit p x) (at L k)) p

-- the function of place k on the top level
unfoldable pub function_at : List (List Children) → List Bool → List ℕ → ℕ → Function
function_at levels terminals order k p = get_or terminals (place_below levels order k p) false

-- how many places the top level has
abbrev pub places : List (List Children) → List Bool → ℕ
places [] terminals = length terminals
places (L ∷ levels) terminals = length L

-- how many nodes have two different children
unfoldable pub branching : List Children → ℕ
branching L = count_by (λ (c : Children). not (nat_eq c.0 c.1)) L

-- the first nodes have their children among `below` places
abbrev pub HasChildrenFirst : ℕ → ℕ → List Children → Type 0
HasChildrenFirst done below L = (k : ℕ) → k < done → ((at L k).0 < below) × ((at L k).1 < below)

-- each node has its children among `below` places
abbrev pub HasChildren : ℕ → List Children → Type 0
HasChildren below L = HasChildrenFirst (length L) below L

-- no node of a level occurs twice
abbrev pub Once : List Children → Type 0
Once L = (j k : ℕ) → j < length L → k < length L → at L j ≡ at L k → j ≡ k

-- each of `below` places is a child of one of the first nodes
abbrev pub ReachedFirst : ℕ → ℕ → List Children → Type 0
ReachedFirst done below L = (j : ℕ) → j < below → (k : ℕ) × (k < done) × (((at L k).0 ≡ j) ⊎ ((at L k).1 ≡ j))

-- a level over `below` places: each node occurs once and has its children among these places, and each place is a child
pub record IsLevel (below : ℕ) (L : List Children) : Type 0 where
  pub inside : HasChildren below L
  pub once : Once L
  pub reached : ReachedFirst (length L) below L

-- levels, the first of which has at most `most` nodes, and each further one at most twice as many
abbrev pub AreLevels : ℕ → List Bool → List (List Children) → Type 0
AreLevels most terminals [] = Unit {0}
AreLevels most terminals (L ∷ levels) = IsLevel (places levels terminals) L × (length L ≤ most)
    × AreLevels (2 * most) terminals levels

-- the first nodes of a level whose children are numbers of keys: each key occurs once, and is the key of a child
pub record NumbersFirst {K : Type 0} (d : K) (off_key on_key : ℕ → K) (done : ℕ) (nodes : List Children)
    (keys : List K) : Type 0 where
  pub many : length nodes ≡ done
  pub few : length keys ≤ 2 * done
  pub inside : HasChildrenFirst done (length keys) nodes
  pub off : (k : ℕ) → k < done → get_or keys (at nodes k).0 d ≡ off_key k
  pub on : (k : ℕ) → k < done → get_or keys (at nodes k).1 d ≡ on_key k
  pub once : (j k : ℕ) → j < length keys → k < length keys → get_or keys j d ≡ get_or keys k d → j ≡ k
  pub reached : ReachedFirst done (length keys) nodes

-- the two grandchildren of a node for a value of the lower variable
abbrev pub grandchildren : List Children → List Children → Bool → ℕ → Children
grandchildren upper lower b k = (child b (at lower (at upper k).0), child b (at lower (at upper k).1))

-- two levels whose variables are swapped, for the first nodes of the upper level: they stay, and below them each pair of grandchildren occurs once
abbrev pub SwapsFirst : ℕ → List Children → List Children → List Children → List Children → Type 0
SwapsFirst done upper lower upper' lower' = NumbersFirst (0, 0) (grandchildren upper lower false)
    (grandchildren upper lower true) done upper' lower'

-- two levels, and the levels that they become when their variables are swapped
abbrev pub SwapsLevels : List Children → List Children → List Children → List Children → Type 0
SwapsLevels upper lower upper' lower' = SwapsFirst (length upper) upper lower upper' lower'

-- the numbers of the roots: each is a place, and each place is a root's
pub record AreRoots (below : ℕ) (roots : List ℕ) : Type 0 where
  pub inside : (j : ℕ) → j < length roots → slice_index roots j < below
  pub reached : (k : ℕ) → k < below → (j : ℕ) × (j < length roots) × (slice_index roots j ≡ k)

-- no terminal occurs twice
abbrev pub AreTerminals : List Bool → Type 0
AreTerminals terminals = (j k : ℕ) → j < length terminals → k < length terminals →
    get_or terminals j false ≡ get_or terminals k false → j ≡ k
