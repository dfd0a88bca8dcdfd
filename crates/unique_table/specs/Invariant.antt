-- The invariant of a store, which holds between any two atomic steps, and the kinds of steps.
--     StoreState, moved s words id v      the words and the views of all seats, and what a step makes of them
--     IsPut views w      a seat put the word of a node, or comes from one that did
--     IsKept b s      the rule: nodes and who put them, meaning, what sessions know, and their stakes
--     looks, puts, publishes, collects, recalls, remembers      the kinds of steps
use Rattle.std.specs.Prelude.{◌≡◌, ◌≢◌, ℕ, ◌+◌, ◌-◌, ◌<◌, ◌≤◌, true, false, List, [], ◌∷◌, ◌++◌, length, slice_index, slice_set, take, drop}
use Rattle.std.specs.List.{Contains}
use mathlib.Core.Option.{some}
use lib.ListN.{get_elem?}
use Rattle.atomic_table.specs.Table.{State, Me, Step}
use Rattle.definitions.specs.Orders.{IsOrder}
use Rattle.node_words.specs.Nodes.{AreNodeWords, AreUnequal, AreStored, Grows}
use Rattle.node_words.specs.Meaning.{Denotes}
use Rattle.node_words.specs.Entries.{IsEntry}
use Rattle.unique_table.specs.declared.plan.Plan.{Plan}
use Rattle.unique_table.specs.declared.session.View.{View}
use Rattle.unique_table.specs.declared.plan.PieceKind.TheVariants.{Restrictions}
use Rattle.unique_table.specs.Plans.{order_of, levels_of, piece_function}
use Rattle.unique_table.specs.Stakes.{whole, half, joined, IsWhole, AreWithinWhole}

-- the words of a table, and the view of each seat
abbrev pub StoreState : Type 0
StoreState = State (Unit {0}) View

-- the state after a step of the seat with number id: the words, and v as the seat's view
abbrev pub moved : StoreState → List ℕ → ℕ → View → StoreState
moved s words id v = record { words = words; homes = s.homes; views = slice_set s.views id v }

-- the words of nodes, of the cache, and of pieces
abbrev pub nodes_of : Plan → List ℕ → List ℕ
nodes_of b ws = take b.places ws

abbrev pub entry_in : Plan → List ℕ → ℕ → ℕ
entry_in b ws c = slice_index ws (b.places + c)

abbrev pub pieces_of : Plan → List ℕ → List ℕ
pieces_of b ws = drop (b.places + b.entries) ws

-- each filled cache word has its operation's result
abbrev pub AreEntries : Plan → List ℕ → List ℕ → Type 0
AreEntries b nodes ws = (c : ℕ) → c < b.entries → entry_in b ws c ≢ 0 → IsEntry (order_of b) nodes (entry_in b ws c)

-- each filled piece word is 1 more than an id of the piece's function
abbrev pub ArePieces : Plan → List ℕ → List ℕ → Type 0
ArePieces b nodes pieces = (q : ℕ) → slice_index pieces q ≢ 0 →
    Denotes (order_of b) nodes (slice_index pieces q - 1) (piece_function b q)

-- the words that were put have each word of a list that is filled
abbrev pub AreMade : List ℕ → List ℕ → Type 0
AreMade made ws = (p : ℕ) → slice_index ws p ≢ 0 → Contains made (slice_index ws p)

-- a seat put the word into the store, or was split or joined from a seat that did
abbrev pub IsPut : List View → ℕ → Type 0
IsPut views w = (i : ℕ) × (v : View) × (get_elem? views i ≡ some v) × (v.live ≡ true) × Contains v.made w

-- what a session saw of the words still stands in the words, and is a list of nodes by itself; the session has some stake, and with the whole
-- stake it knows all pieces
pub record IsSeen (b : Plan) (ws ps : List ℕ) (v : View) : Type 0 where
  pub plan : v.plan ≡ b
  pub size : length v.seen ≤ b.places
  pub nodes : AreNodeWords (levels_of b) v.seen
  pub unequal : AreUnequal v.seen
  pub are_pieces : ArePieces b v.seen v.pieces
  pub grows : Grows v.seen ws
  pub received : Grows v.received ws
  pub pieces : Grows v.pieces ps
  pub pieces_received : Grows v.pieces_received ps
  pub stake : 0 < v.stake.units
  pub all : v.current ≡ true → IsWhole v.stake → Grows ps v.pieces

-- the rule of a store's table; the view that a join leaves behind is excepted
pub record IsKept (b : Plan) (s : StoreState) : Type 0 where
  pub order : IsOrder (levels_of b) (order_of b)
  pub size : length s.words ≡ b.places + b.entries + b.pieces
  pub stored : AreStored (levels_of b) b.places (nodes_of b s.words)
  pub put : (p : ℕ) → slice_index (nodes_of b s.words) p ≢ 0 → IsPut s.views (slice_index (nodes_of b s.words) p)
  pub entries : AreEntries b (nodes_of b s.words) s.words
  pub pieces : ArePieces b (nodes_of b s.words) (pieces_of b s.words)
  pub seen : (i : ℕ) (v : View) → get_elem? s.views i ≡ some v → v.live ≡ true →
      IsSeen b (nodes_of b s.words) (pieces_of b s.words) v
  pub stakes : AreWithinWhole s.views

-- what the first session knows
abbrev pub newcomer : Plan → View
newcomer b = record {
  live = true;
  current = true;
  stake = whole;
  plan = b;
  seen = [];
  received = [];
  made = [];
  pieces = [];
  pieces_received = [];
  steps = 0;
  writes = 0;
}

-- a view that has put these words
abbrev pub having : List ℕ → View → View
having made v =
    record {
      live =
          v.live;
      current = v.current;
      stake = v.stake;
      plan = v.plan;
      seen = v.seen;
      received = v.received;
      made = made;
      pieces = v.pieces;
      pieces_received = v.pieces_received;
      steps = v.steps;
      writes = v.writes;
    }

-- a view that has put one more word
abbrev pub putting : ℕ → View → View
putting w v = having (w ∷ v.made) v

-- a view after a step in which all words were seen, those of nodes and those of pieces, and which wrote `wrote` words
abbrev pub sees : View → List ℕ → List ℕ → ℕ → View
sees v ws pieces wrote =
    record {
      live =
          true;
      current = true;
      stake = v.stake;
      plan = v.plan;
      seen = ws;
      received = [];
      made = v.made;
      pieces = pieces;
      pieces_received = [];
      steps = v.steps + 1;
      writes = v.writes + wrote;
    }

-- the first half of a view, with one step more
abbrev pub stepped : View → View
stepped v =
    record {
      live =
          v.live;
      current = v.current;
      stake = half v.stake;
      plan =
          v.plan;
      seen = v.seen;
      received = v.received;
      made = v.made;
      pieces = v.pieces;
      pieces_received = v.pieces_received;
      steps = v.steps + 1;
      writes = v.writes;
    }

-- the second half of a view: it has seen and put what the first half has, and made no step
abbrev pub another : View → View
another v = record {
  live = true;
  current = v.current;
  stake = half v.stake;
  plan = v.plan;
  seen = v.seen;
  received = [];
  made = v.made;
  pieces = v.pieces;
  pieces_received = [];
  steps = 0;
  writes = 0;
}

-- v receives what w saw and put; the stakes, steps and writes of both are added
abbrev pub informed : View → View → View
informed v w =
    record {
      live =
          v.live;
      current = false;
      stake = joined v.stake w.stake;
      plan =
          v.plan;
      seen =
          v.seen;
      received =
          w.seen;
      made = v.made ++ w.made;
      pieces = v.pieces;
      pieces_received = w.pieces;
      steps = v.steps + w.steps + 1;
      writes = v.writes + w.writes;
    }

abbrev no_plan : Plan
no_plan = record {
  places = 0;
  entries = 0;
  roots = 0;
  pieces = 0;
  order = record { marker = record {}; value = [] };
  problem = record { marker = record {}; value = record { inputs = 0; tables = [] } };
  kind = Restrictions;
}

-- what a join leaves of the second view
abbrev pub spent : View
spent = record {
  live = false;
  current = false;
  stake = record { units = 0; halvings = 0 };
  plan = no_plan;
  seen = [];
  received = [];
  made = [];
  pieces = [];
  pieces_received = [];
  steps = 0;
  writes = 0;
}

abbrev Seated : Type 0
Seated = Me (Unit {0}) View

-- the words ws of nodes and ps of pieces agree with the view v; if v has the whole stake, it put each node
pub record Sees (v : View) (ws ps : List ℕ) : Type 0 where
  pub size : length ws ≡ v.plan.places
  pub nodes : AreNodeWords (levels_of v.plan) ws
  pub unequal : AreUnequal ws
  pub are_pieces : ArePieces v.plan ws ps
  pub grows : Grows v.seen ws
  pub received : Grows v.received ws
  pub pieces_grow : Grows v.pieces ps
  pub pieces_received : Grows v.pieces_received ps
  pub made : IsWhole v.stake → AreMade v.made ws

-- a step after which the words are ws and pieces, and which wrote `wrote` of them
abbrev pub Goes : Seated → Seated → ℕ → (List ℕ → List ℕ → Type 0) → Type 0
Goes m m' wrote then = (ws : List ℕ) × (pieces : List ℕ) × (m' ≡ (sees m.0 ws pieces wrote, m.1)) × Sees m.0 ws pieces
    × then ws pieces

-- a load of a node word: the session sees it
abbrev pub looks : Step (Unit {0}) → Seated → ℕ → Seated → Type 0
looks st m n m' = Goes m m' 0 (λ ws pieces. st.word < m.0.plan.places → slice_index ws st.word ≡ n)

-- one try to fill an empty node place: the session sees what stands there afterwards
abbrev pub puts : Step (Unit {0}) → Seated → ℕ → Seated → Type 0
puts st m n m' = (n ≡ 0 → Goes (putting st.second m.0, m.1) m' 1 (λ ws pieces. slice_index ws st.word ≡ st.second))
    × (n ≢ 0 → Goes m m' 0 (λ ws pieces. slice_index ws st.word ≡ n))

-- a store to a piece word, and a load of one: the session sees the piece
abbrev pub publishes : Step (Unit {0}) → Seated → ℕ → Seated → Type 0
publishes st m n m' = Goes m m' 1 (λ ws pieces. slice_index pieces (st.word - (m.0.plan.places + m.0.plan.entries)) ≡ n)

abbrev pub collects : Step (Unit {0}) → Seated → ℕ → Seated → Type 0
collects st m n m' = Goes m m' 0 (λ ws pieces. slice_index pieces (st.word - (m.0.plan.places + m.0.plan.entries)) ≡ n)

-- a load of a cache word: the session sees the result, if there is one
abbrev pub recalls : Step (Unit {0}) → Seated → ℕ → Seated → Type 0
recalls st m n m' = Goes m m' 0 (λ ws pieces. n ≢ 0 → IsEntry (order_of m.0.plan) ws n)

-- a store to a cache word
abbrev pub remembers : Step (Unit {0}) → Seated → ℕ → Seated → Type 0
remembers st m n m' = Goes m m' 1 (λ ws pieces. Unit {0})
