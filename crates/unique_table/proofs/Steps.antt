-- What a step leaves of a seat.
use Rattle.std.proofs.Common.{◌≡◌, ℕ, ◌+◌, ◌≤◌, List, arith}
use Rattle.node_words.proofs.OneMoreNode.{grows_trans}
use Rattle.unique_table.specs.declared.session.View.{View}
use Rattle.unique_table.specs.Invariant.{Sees, sees}
use Rattle.unique_table.specs.Views.{After, Gains}
use Rattle.unique_table.specs.Seats.{Board, Sitting, IsSeatOf, IsSeatAfter, Searches}
use Rattle.unique_table.proofs.Puts.{gains_again}
use Rattle.unique_table.proofs.Rule.{M}

pub after_goes : (m m' : M) (wrote : ℕ) (ws ps : List ℕ) → m' ≡ (sees m.0 ws ps wrote, m.1) → Sees m.0 ws ps → After m.0 m'.0 wrote
after_goes m m' wrote ws ps is s = grind arith

pub seat_after : (t : Board) (s s' : Sitting) (wrote : ℕ) (ws ps : List ℕ) → IsSeatOf t s → s'.table_id ≡ s.table_id →
    s'.me ≡ (sees s.me.0 ws ps wrote, s.me.1) → Sees s.me.0 ws ps → IsSeatAfter t s s' wrote
seat_after t s s' wrote ws ps fits same is sees_all = grind (arith, after_goes)

pub gains_after : (v v' : View) (wrote : ℕ) → After v v' wrote → Gains v v'
gains_after v v' wrote a = record { good = a.good; current = λ _. a.current; plan = a.plan; stake = a.stake; nodes = a.nodes; pieces = a.pieces }

pub gains_both : (v v' v'' : View) → Gains v v' → Gains v' v'' → Gains v v''
gains_both v v' v'' a b = grind (arith, grows_trans)

-- one search and another for the same word
pub searches_on : (t : Board) (s s' s'' : Sitting) (word a b c : ℕ) → a + b ≤ c → Searches t s s' word a → Searches t s' s'' word b →
    Searches t s s'' word c
searches_on t s s' s'' word a b c less x y = record {
  seat = y.seat;
  view = gains_both s.me.0 s'.me.0 s''.me.0 x.view y.view;
  made = gains_again s.me.0.made s'.me.0.made s''.me.0.made word x.made y.made;
  steps = let m = x.steps in let n = y.steps in omega (arith, less, m, n);
}
