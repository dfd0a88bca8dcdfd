-- Seats at a store's table, and the places of its words.
--     Board, Sitting      the table and a seat at it
--     IsSeatOf t s, IsSeatAfter t s s' wrote      a seat of the table, and one after a step that wrote `wrote` words
--     Searches t s s' word most      a seat searches for a node's word
--     IsNodePlace t place, IsEntryPlace t entry place, IsPiecePlace t piece place      the places of the words of nodes, of the cache and of pieces
--     IsNodeWord t s word, MayPut t s word place      a node's word, and the place at which a seat may put the word
use Rattle.std.specs.Prelude.{◌≡◌, ◌≢◌, ℕ, ◌+◌, ◌<◌, ◌≤◌, []}
use Rattle.atomic_table.specs.declared.shared.Shared.{Shared}
use Rattle.atomic_table.specs.declared.shared.Seat.{Seat}
use Rattle.node_words.specs.Nodes.{IsNode, IsNextProbe}
use Rattle.unique_table.specs.declared.plan.Plan.{Plan}
use Rattle.unique_table.specs.declared.session.View.{View}
use Rattle.unique_table.specs.declared.atomic_steps.Words.{Words}
use Rattle.unique_table.specs.Plans.{levels_of}
use Rattle.unique_table.specs.Views.{IsGoodView, After, Gains}
use Rattle.unique_table.specs.Sessions.{GainsOnly}

-- a store's table
abbrev pub Board : Type 0
Board = Shared (Unit {0}) View Plan Words

-- a seat at such a table
abbrev pub Sitting : Type 0
Sitting = Seat (Unit {0}) View

-- the seat was made with this table, holds no slot, and has a good view
pub record IsSeatOf (t : Board) (s : Sitting) : Type 0 where
  pub table : s.table_id ≡ t.table_id
  pub plan : s.me.0.plan ≡ t.key
  pub empty : s.me.1 ≡ []
  pub good : IsGoodView s.me.0

-- the table's seat after a step that wrote `wrote` words
pub record IsSeatAfter (t : Board) (s s' : Sitting) (wrote : ℕ) : Type 0 where
  pub seat : IsSeatOf t s'
  pub view : After s.me.0 s'.me.0 wrote

-- a seat searches for a node's word in at most `most` steps, and puts no other word
pub record Searches (t : Board) (s s' : Sitting) (word most : ℕ) : Type 0 where
  pub seat : IsSeatOf t s'
  pub view : Gains s.me.0 s'.me.0
  pub made : GainsOnly s.me.0.made s'.me.0.made word
  pub steps : s'.me.0.steps ≤ s.me.0.steps + most

-- the place of a node's word
pub record IsNodePlace (t : Board) (place : ℕ) : Type 0 where
  pub node : place < t.key.places
  pub inside : place < t.table_id.words

-- the place of a cache word, after those of nodes
pub record IsEntryPlace (t : Board) (entry place : ℕ) : Type 0 where
  pub at : place ≡ t.key.places + entry
  pub entries : entry < t.key.entries
  pub inside : place < t.table_id.words

-- the place of a piece's word, after those of nodes and of the cache
pub record IsPiecePlace (t : Board) (piece place : ℕ) : Type 0 where
  pub at : place ≡ t.key.places + t.key.entries + piece
  pub inside : place < t.table_id.words

-- the word of a node whose children the seat saw
pub record IsNodeWord (t : Board) (s : Sitting) (word : ℕ) : Type 0 where
  pub some : word ≢ 0
  pub node : IsNode (levels_of t.key) s.me.0.seen word

-- the seat may put the node's word into the place, which comes next in the search for it
pub record MayPut (t : Board) (s : Sitting) (word place : ℕ) : Type 0 where
  pub seat : IsSeatOf t s
  pub at : IsNodePlace t place
  pub next : IsNextProbe s.me.0.seen t.key.places word place
  pub node : IsNodeWord t s word
