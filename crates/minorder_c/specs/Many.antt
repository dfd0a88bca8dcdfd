-- What minorder_exact_many and minorder_exact_diagram_many take and answer.
--     HasManyShape given places counts many      truth tables of so many problems, one behind the other, and places for their answers
--     tables_at given k      the truth tables of problem k
--     IsPut given orders orders' levels levels' totals totals'      one problem's order, level counts and size, put behind those of others
--     AreFirstFewest given many orders levels totals      of each problem the first order of the fewest nodes, its level counts and its size
--     HasManyDiagramShape given places counts roots many      also with a root for each output of each problem
--     nodes_at totals nodes k      the nodes of problem k, if each problem has as many as its total, one problem behind the other
--     AreDiagrams given many orders totals nodes roots      of each problem the reduced diagram under its order
--     HoldDiagrams given orders place place' roots totals      the front of a place holds the nodes of all, and the rest stays
--     AreDrawn given many orders levels totals nodes roots      all of these, with their lengths
--     HoldOptima given .., AreShortOptima given ..      orders, level counts, sizes, and the diagrams in a place or more nodes than the place
--     IsDrawn given order total nodes nodes' roots roots'      one problem's nodes and roots, put behind those of others
--     IsPutDrawn given ..      both
use Rattle.std.specs.Prelude.{◌≡◌, ℕ, ◌*◌, ◌<◌, ◌∷◌, ◌++◌, List, [], drop, length, slice_index, sum, take}
use Rattle.definitions.specs.Problems.{TruthTables, functions, packed_tables, words_of, words_per_table}
use Rattle.solutions.specs.Solutions.{IsFirstFewest}
use Rattle.minorder_c.specs.declared.arguments.GivenTables.{GivenTables}
use Rattle.truth_table.specs.Reduced.{IsNumberedDiagram}
use Rattle.truth_table.specs.declared.levels.NumberedNode.{NumberedNode}
use Rattle.minorder_c.specs.Answers.{IsFirstFewestOf, IsInRange}
use Rattle.minorder_c.specs.Diagrams.{IsDrawnFor}
use Rattle.minorder_c.specs.Rooms.{Holds}

-- truth tables of so many problems, one behind the other, each of 1 to 16 functions of 1 to 16 variables; for each problem a place in
-- an order and a level count for each variable
pub record HasManyShape (given : GivenTables) (places counts many : ℕ) : Type 0 where
  pub in_range : IsInRange given
  pub long : length given.words.now ≡ many * (given.outputs * words_per_table given.inputs)
  pub places_are : places ≡ many * given.inputs
  pub counts_are : counts ≡ many * given.inputs

-- the truth tables of problem k
abbrev pub tables_at : GivenTables → ℕ → TruthTables
tables_at given k =
    packed_tables given.inputs given.outputs (words_of (given.outputs * words_per_table given.inputs) given.words.now k)

-- of each problem the first order of the fewest nodes, its level counts and its size; each list has those of one problem behind
-- those of the other
abbrev pub AreFirstFewest : GivenTables → ℕ → List ℕ → List ℕ → List ℕ → Type 0
AreFirstFewest given many orders levels totals =
    (k : ℕ) → k < many →
    IsFirstFewest given.inputs (functions (tables_at given k)) [] (words_of given.inputs orders k) (words_of given.inputs levels k)
    (slice_index totals k)

-- one problem's order, level counts and size, put behind those of others
pub record IsPut (given : GivenTables) (orders orders' levels levels' totals totals' : List ℕ) : Type 0 where
  pub order : List ℕ
  pub counts : List ℕ
  pub total : ℕ
  pub fewest : IsFirstFewestOf given [] order counts total
  pub orders_are : orders' ≡ orders ++ order
  pub levels_are : levels' ≡ levels ++ counts
  pub totals_are : totals' ≡ totals ++ total ∷ []

-- the same with places for answers that have diagrams: also a root for each output of each problem
pub record HasManyDiagramShape (given : GivenTables) (places counts roots many : ℕ) : Type 0 where
  pub call : HasManyShape given places counts many
  pub roots_are : roots ≡ many * given.outputs

-- the nodes of problem k, where each problem has as many as its total and they stand one problem behind the other
abbrev pub nodes_at : List ℕ → List NumberedNode → ℕ → List NumberedNode
nodes_at totals nodes k = take (slice_index totals k) (drop (sum (take k totals)) nodes)

-- of each problem the reduced diagram under its order
abbrev pub AreDiagrams : GivenTables → ℕ → List ℕ → List ℕ → List NumberedNode → List ℕ → Type 0
AreDiagrams given many orders totals nodes roots =
    (k : ℕ) → k < many →
    IsNumberedDiagram given.inputs (functions (tables_at given k)) (words_of given.inputs orders k) (nodes_at totals nodes k)
    (words_of given.outputs roots k)

-- the front of a place holds the nodes of all, and the rest stays
abbrev pub HoldDiagrams : GivenTables → List ℕ → List NumberedNode → List NumberedNode → List ℕ → List ℕ → Type 0
HoldDiagrams given orders place place' roots totals =
    Holds (λ nodes. AreDiagrams given (length totals) orders totals nodes roots) place place' (sum totals)

-- so many problems' answers, with diagrams
pub record AreDrawn (given : GivenTables) (many : ℕ) (orders levels totals : List ℕ) (nodes : List NumberedNode) (roots : List ℕ) : Type 0 where
  pub optima : AreFirstFewest given many orders levels totals
  pub diagrams : AreDiagrams given many orders totals nodes roots
  pub orders_long : length orders ≡ many * given.inputs
  pub levels_long : length levels ≡ many * given.inputs
  pub totals_long : length totals ≡ many
  pub nodes_long : length nodes ≡ sum totals
  pub roots_long : length roots ≡ many * given.outputs

-- of each problem the first order of the fewest nodes, its level counts and its size, and the diagrams under these orders in a place
pub record HoldOptima (given : GivenTables) (orders levels : List ℕ) (place place' : List NumberedNode) (roots totals : List ℕ) : Type 0 where
  pub optima : AreFirstFewest given (length totals) orders levels totals
  pub diagrams : HoldDiagrams given orders place place' roots totals

-- the same without the diagrams, which have more nodes than there is place for
pub record AreShortOptima (given : GivenTables) (orders levels : List ℕ) (place : List NumberedNode) (totals : List ℕ) : Type 0 where
  pub optima : AreFirstFewest given (length totals) orders levels totals
  pub longer : length place < sum totals

-- one problem's nodes and roots, put behind those of others
pub record IsDrawn (given : GivenTables) (order : List ℕ) (total : ℕ) (nodes nodes' : List NumberedNode) (roots roots' : List ℕ) : Type 0 where
  pub own : List NumberedNode
  pub own_roots : List ℕ
  pub is : IsDrawnFor given order total own own_roots
  pub nodes_are : nodes' ≡ nodes ++ own
  pub roots_are : roots' ≡ roots ++ own_roots

-- one problem's order, level counts, size, nodes and roots, put behind those of others
pub record IsPutDrawn (given : GivenTables) (orders orders' levels levels' totals totals' : List ℕ) (nodes nodes' : List NumberedNode)
    (roots roots' : List ℕ) : Type 0 where
  pub put : IsPut given orders orders' levels levels' totals totals'
  pub drawn : IsDrawn given put.order put.total nodes nodes' roots roots'
