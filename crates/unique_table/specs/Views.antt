-- What a seat's view keeps.
--     IsGoodView v      a view is a list of nodes by itself, with the pieces that it has
--     After v v' wrote      a view after a step
use Rattle.std.specs.Prelude.{◌≡◌, ℕ, ◌+◌, ◌≤◌, true, length}
use Rattle.node_words.specs.Nodes.{AreNodeWords, AreUnequal, Grows}
use Rattle.unique_table.specs.declared.session.View.{View}
use Rattle.unique_table.specs.Plans.{levels_of}
use Rattle.unique_table.specs.Stakes.{IsWhole}
use Rattle.unique_table.specs.Invariant.{ArePieces, AreMade}

-- the words that a view has seen are a list of nodes by itself, with the pieces that it has seen; with the whole stake it put all of these nodes
pub record IsGoodView (v : View) : Type 0 where
  pub live : v.live ≡ true
  pub size : length v.seen ≤ v.plan.places
  pub nodes : AreNodeWords (levels_of v.plan) v.seen
  pub unequal : AreUnequal v.seen
  pub are_pieces : ArePieces v.plan v.seen v.pieces
  pub made : v.current ≡ true → IsWhole v.stake → AreMade v.made v.seen

-- a view after a step that wrote `wrote` words
pub record After (v v' : View) (wrote : ℕ) : Type 0 where
  pub good : IsGoodView v'
  pub current : v'.current ≡ true
  pub plan : v'.plan ≡ v.plan
  pub stake : v'.stake ≡ v.stake
  pub made : v'.made ≡ v.made
  pub nodes : Grows v.seen v'.seen
  pub pieces : Grows v.pieces v'.pieces
  pub received : Grows v.received v'.seen
  pub pieces_received : Grows v.pieces_received v'.pieces
  pub steps : v'.steps ≡ v.steps + 1
  pub writes : v'.writes ≡ v.writes + wrote

-- a view that goes on: what was seen stays
pub record Gains (v v' : View) : Type 0 where
  pub good : IsGoodView v'
  pub current : v.current ≡ true → v'.current ≡ true
  pub plan : v'.plan ≡ v.plan
  pub stake : v'.stake ≡ v.stake
  pub nodes : Grows v.seen v'.seen
  pub pieces : Grows v.pieces v'.pieces
