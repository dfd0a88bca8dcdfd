-- The kinds of steps, over states under the rule.
--     Becomes b s id v words v'      after a step of seat id to the words `words` and the view v', the rule holds, and v' has what v had
--     IsStoreSeat b s id v      seat id has the view v, which is live
--     WholesAreAlone      a seat with the whole stake is the only one
--     EqualFunctionsHaveEqualIds, EqualIdsHaveEqualFunctions      ids that any two seats know are equal if and only if they denote equal functions
use Rattle.std.specs.Prelude.{◌≡◌, ◌≢◌, ℕ, ◌+◌, ◌^◌, ◌<◌, ◌==◌, true, if◌then◌else◌, List, slice_index, slice_set}
use mathlib.Core.Option.{some}
use lib.ListN.{get_elem?}
use Rattle.definitions.specs.Functions.{Function, SameFunction}
use Rattle.node_words.specs.Nodes.{Grows, IsNextProbe, IsNode}
use Rattle.node_words.specs.Meaning.{Denotes}
use Rattle.node_words.specs.Entries.{IsEntry}
use Rattle.unique_table.specs.declared.plan.Plan.{Plan}
use Rattle.unique_table.specs.declared.session.View.{View}
use Rattle.unique_table.specs.Plans.{order_of, levels_of, piece_function}
use Rattle.unique_table.specs.Invariant.{StoreState, IsKept, moved, nodes_of, pieces_of}
use Rattle.unique_table.specs.Stakes.{IsWhole}
use Rattle.unique_table.specs.Views.{Gains}

-- a seat of a state under the rule, with its view; words have 64 bits
pub record IsStoreSeat (b : Plan) (s : StoreState) (id : ℕ) (v : View) : Type 0 where
  pub kept : IsKept b s
  pub seat : get_elem? s.views id ≡ some v
  pub live : v.live ≡ true
  pub fits : (p : ℕ) → slice_index s.words p < 2 ^ 64

-- the seat's view after the step
pub record Becomes (b : Plan) (s : StoreState) (id : ℕ) (v : View) (words : List ℕ) (v' : View) : Type 0 where
  pub kept : IsKept b (moved s words id v')
  pub gains : Gains v v'

-- a seat that has the whole stake is the only one
abbrev pub WholesAreAlone : Type 0
WholesAreAlone = (b : Plan) (s : StoreState) (i j : ℕ) (v w : View) → IsStoreSeat b s i v → IsStoreSeat b s j w →
    IsWhole v.stake → i ≡ j

-- ids that two seats know are equal if they denote the same function, whichever threads made them
abbrev pub EqualFunctionsHaveEqualIds : Type 0
EqualFunctionsHaveEqualIds = (b : Plan) (s : StoreState) (i j : ℕ) (v w : View) → IsStoreSeat b s i v → IsStoreSeat b s j w →
    (x y : ℕ) (f : Function) → Denotes (order_of b) v.seen x f → Denotes (order_of b) w.seen y f → x ≡ y

-- an id that two seats know denotes the same function to both
abbrev pub EqualIdsHaveEqualFunctions : Type 0
EqualIdsHaveEqualFunctions = (b : Plan) (s : StoreState) (i j : ℕ) (v w : View) → IsStoreSeat b s i v → IsStoreSeat b s j w →
    (x : ℕ) (f g : Function) → Denotes (order_of b) v.seen x f → Denotes (order_of b) w.seen x g →
    SameFunction (levels_of b) f g

-- the words after one try to fill a node place
abbrev pub put_words : List ℕ → ℕ → ℕ → List ℕ
put_words words p w = if slice_index words p == 0 then slice_set words p w else words

-- a load of a node word
abbrev pub Looks : Type 0
Looks = (b : Plan) (s : StoreState) (id : ℕ) (v : View) (p : ℕ) → IsStoreSeat b s id v → p < b.places →
    (v' : View) × Becomes b s id v s.words v' × (slice_index v'.seen p ≡ slice_index s.words p)

-- one try to put a node's word into the place that comes next in the search for it
abbrev pub Puts : Type 0
Puts = (b : Plan) (s : StoreState) (id : ℕ) (v : View) (p w : ℕ) → IsStoreSeat b s id v → p < b.places → w ≢ 0 →
    IsNextProbe v.seen b.places w p →
    IsNode (levels_of b) v.seen w →
    (v' : View) × Becomes b s id v (put_words s.words p w) v'
    × (slice_index v'.seen p ≡ slice_index (put_words s.words p w) p)

-- a store of a piece's id: if an id was published before, it is equal
abbrev pub Publishes : Type 0
Publishes =
    (b : Plan) (s : StoreState) (id : ℕ) (v : View) (q ref : ℕ) → IsStoreSeat b s id v → q < b.pieces →
    Denotes (order_of b) v.seen ref (piece_function b q) →
    (v' : View) × Becomes b s id v (slice_set s.words (b.places + b.entries + q) (ref + 1)) v'
    × (slice_index v'.pieces q ≡ ref + 1)
    × Grows (pieces_of b s.words) (pieces_of b (slice_set s.words (b.places + b.entries + q) (ref + 1)))

-- a load of a piece word
abbrev pub Collects : Type 0
Collects = (b : Plan) (s : StoreState) (id : ℕ) (v : View) (q : ℕ) → IsStoreSeat b s id v →
    (v' : View) × Becomes b s id v s.words v'
    × (slice_index v'.pieces q ≡ slice_index s.words (b.places + b.entries + q))

-- a load of a cache word
abbrev pub Recalls : Type 0
Recalls = (b : Plan) (s : StoreState) (id : ℕ) (v : View) (c : ℕ) → IsStoreSeat b s id v → c < b.entries →
    (v' : View) × Becomes b s id v s.words v'
    × (slice_index s.words (b.places + c) ≢ 0 → IsEntry (order_of b) v'.seen (slice_index s.words (b.places + c)))

-- a store of an operation's result: nodes and pieces stay
abbrev pub Remembers : Type 0
Remembers = (b : Plan) (s : StoreState) (id : ℕ) (v : View) (c w : ℕ) → IsStoreSeat b s id v → c < b.entries →
    IsEntry (order_of b) v.seen w →
    (v' : View) × Becomes b s id v (slice_set s.words (b.places + c) w) v'
    × (nodes_of b (slice_set s.words (b.places + c) w) ≡ nodes_of b s.words)
    × (pieces_of b (slice_set s.words (b.places + c) w) ≡ pieces_of b s.words)
