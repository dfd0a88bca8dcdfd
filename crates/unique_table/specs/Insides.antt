-- The fields of a store and of a session.
use Rattle.std.specs.Prelude.{◌≡◌, ◌+◌, true, []}
use Rattle.unique_table.specs.Plans.{order_of, IsPlan}
use Rattle.unique_table.specs.Views.{IsGoodView}
use Rattle.unique_table.specs.Sessions.{StoreId, Knowledge}
use Rattle.unique_table.specs.declared.store.Store.TheInside as store
use Rattle.unique_table.specs.declared.session.Session.TheInside as session

abbrev pub store_id : store.Inside → StoreId
store_id t = record { table = t.table.shared.table_id; plan = t.table.shared.key }

-- the fields of a store have the numbers of its plan
pub record IsStore (t : store.Inside) : Type 0 where
  pub plan : IsPlan t.table.shared.key
  pub places : t.places ≡ t.table.shared.key.places
  pub entries : t.entries ≡ t.table.shared.key.entries
  pub roots : t.roots ≡ t.table.shared.key.roots
  pub pieces : t.pieces ≡ t.table.shared.key.pieces
  pub order : t.order ≡ order_of t.table.shared.key
  pub words : t.table.shared.table_id.words ≡ t.places + t.entries + t.pieces
  pub no_slots : t.table.shared.table_id.slots ≡ 0

abbrev pub knowledge : session.Inside → Knowledge
knowledge s = let v = s.seat.me.0 in
    record {
      store =
          record { table = s.seat.table_id; plan = v.plan };
      stake = v.stake;
      seen = v.seen;
      made = v.made;
      pieces = v.pieces;
      steps = v.steps;
      writes = v.writes;
    }

-- the view of a session is good and current, and the session's seat holds no slot
pub record IsSession (s : session.Inside) : Type 0 where
  pub good : IsGoodView s.seat.me.0
  pub current : s.seat.me.0.current ≡ true
  pub empty : s.seat.me.1 ≡ []
