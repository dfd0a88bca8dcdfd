use Rattle.std.proofs.Common.{◌≡◌, ◌+◌, ◌<◌, ℕ, length, sym, subst, arith}
use Rattle.sifting.specs.NodeTables.{IsFreeSlot, IsSet, HasSlot, Inserted}
use Rattle.sifting.proofs.BranchingNodes.{branching_counted}
use Rattle.sifting.proofs.Insertions.{inserted_new, inserted_again}
use Rattle.sifting.proofs.NodeSlots.{absent, slotted_more}
use Rattle.sifting.proofs.node_table.NodeTable.number_of.Goals as goal

pub overflow_add-self-2 : goal.overflow_add-self-2
overflow_add-self-2 c =
    let t = c.args.self.now in
    let counted = branching_counted t.nodes.items c.push.new.self.items c.args.node t.count c.from.result c.requires.table.counted
    c.in_ok-push.ensures.items c.from.ensures in
    let few = counted.1 in
    let r = c.requires.room in
    omega arith

pub returns-clause-table : goal.returns-clause-table
returns-clause-table c =
    let t = c.args.self.now in
    let counted = branching_counted t.nodes.items c.push.new.self.items c.args.node t.count c.from.result c.requires.table.counted
    c.in_ok-push.ensures.items c.from.ensures in
    let free = subst (λ z. z)
    (λ i. IsFreeSlot (c.deref.ensures.value i) t.base (c.deref-2.ensures.value i) c.args.node (c.home-from.ensures.place i) c.in-Err.at)
    c.in-Err.ensures.free in
    let count = c.len-number.ensures in
    let number : c.len-number.result ≡ length t.nodes.items = omega arith in
    let set = subst (λ n. IsSet t.slots.items c.set_slot.new.slots.items c.in-Err.at (t.base + n)) number c.in_ok-set_slot.ensures in
    let slotted = slotted_more t.slots.items t.homes t.base t.nodes.items c.args.node c.in-Err.at free c.requires.table.slotted
    c.set_slot.new.slots.items set in
    record {
      spread = let a = c.requires.table.spread in let b = set.grows in omega arith;
      few = c.requires.table.few;
      slotted = subst (λ ns. (k : ℕ) → k < length ns → HasSlot c.set_slot.new.slots.items t.homes t.base ns k) (sym c.in_ok-push.ensures.items) slotted;
      counted = counted.0;
    }

pub returns-clause-inserted : goal.returns-clause-inserted
returns-clause-inserted c =
    let t = c.args.self.now in
    let free = subst (λ z. z)
    (λ i. IsFreeSlot (c.deref.ensures.value i) t.base (c.deref-2.ensures.value i) c.args.node (c.home-from.ensures.place i) c.in-Err.at)
    c.in-Err.ensures.free in
    let new = inserted_new (0, 0) c.args.node t.nodes.items
    (absent t.slots.items t.homes t.base t.nodes.items c.args.node c.in-Err.at free c.requires.table.slotted) in
    let count = c.len-number.ensures in
    let number : c.len-number.result ≡ length t.nodes.items = omega arith in
    subst (λ z. z) (λ i. Inserted (0, 0) t.nodes.items (sym c.in_ok-push.ensures.items i) c.args.node (sym number i)) new

pub returns-in-Ok-clause-inserted : goal.returns-in-Ok-clause-inserted
returns-in-Ok-clause-inserted c =
    let found = rw (c.deref-2.ensures.value) at c.in-Ok.ensures.found in
    inserted_again (0, 0) c.args.node c.args.self.now.nodes.items c.in-Ok.number found.0 found.1
