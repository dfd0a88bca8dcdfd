-- The fields of a closed store.
use Rattle.std.specs.Prelude.{◌≡◌}
use Rattle.std.specs.Slots.{slots_items, slots_len, IsFull}
use Rattle.unique_table.specs.Plans.{order_of, IsPlan}
use Rattle.unique_table.specs.Closing.{ClosedStoreOf, AreFinal, first_root, roots_count}
use Rattle.unique_table.specs.declared.close.ClosedStore.TheInside as closed

abbrev pub closed_store : closed.Inside → ClosedStoreOf
closed_store c = record { plan = c.store.value.plan; words = slots_items c.closed.words }

-- the fields of a closed store have the plan's numbers, and each of its words is there
pub record IsClosedStore (c : closed.Inside) : Type 0 where
  pub plan : IsPlan c.store.value.plan
  pub places : c.places ≡ c.store.value.plan.places
  pub first : c.first ≡ first_root c.store.value.plan
  pub roots : c.roots ≡ roots_count c.store.value.plan
  pub order : c.order ≡ order_of c.store.value.plan
  pub final : AreFinal (closed_store c)
  pub full : IsFull c.closed.words
  pub no_slots : slots_len c.closed.slots ≡ 0
