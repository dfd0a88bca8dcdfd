use Rattle.std.proofs.Common.{◌≡◌, ◌+◌, arith, subst, refl, sym, length, false, true}
use Rattle.sifting.specs.Leveled.{SwapsFirst, grandchildren}
use Rattle.sifting.proofs.BranchingNodes.{branching_none, branching_counted}
use Rattle.sifting.proofs.LevelNodes.{numbers_none, numbers_more}
use Rattle.sifting.proofs.levels.swap_levels.Goals as goal

pub loop-off-init : goal.loop-off-init
loop-off-init c = grind (arith, numbers_none, branching_none)

pub overflow_add-count : goal.overflow_add-count
overflow_add-count c =
    let counted = branching_counted c.loop-off.kept.items c.push.new.self.items (c.in_ok-without.without, c.in_ok-with.with) c.loop-off.count
    c.from-count.result c.loop-off.invariant.counted c.in_ok-push.ensures.items c.from-count.ensures in
    let few = counted.1 in
    let many = c.loop-off.invariant.swaps.many in
    let t = c.loop-off-test.true in
    let r = c.requires.few in
    omega arith

pub loop-off-preserved : goal.loop-off-preserved
loop-off-preserved c =
    let counted = branching_counted c.loop-off.kept.items c.push.new.self.items (c.in_ok-without.without, c.in_ok-with.with) c.loop-off.count
    c.from-count.result c.loop-off.invariant.counted c.in_ok-push.ensures.items c.from-count.ensures in
    let off = grandchildren c.args.upper.now c.args.lower.now false in
    let on = grandchildren c.args.upper.now c.args.lower.now true in
    let more = numbers_more (0, 0) off on c.loop-off.off-index c.loop-off.kept.items c.loop-off.table.nodes.items c.number_of.new.self.nodes.items
    c.number_of-in-loop-off.new.self.nodes.items (off c.loop-off.off-index) (on c.loop-off.off-index) c.in_ok-without.without c.in_ok-with.with
    c.loop-off.invariant.swaps c.in_ok-without.ensures.inserted c.in_ok-with.ensures.inserted refl refl in
    record {
      swaps = subst
          (λ ks. SwapsFirst (c.loop-off.off-index + 1) c.args.upper.now c.args.lower.now ks c.number_of-in-loop-off.new.self.nodes.items)
          (sym c.in_ok-push.ensures.items) more;
      table = c.in_ok-with.ensures.table;
      room = let a = c.in_ok-with.ensures.base in let b = c.in_ok-without.ensures.base in let r = c.loop-off.invariant.room in omega arith;
      counted = counted.0;
    }

pub returns : goal.returns
returns c =
    let done = c.loop-off.auto.off-index-end in
    let past = c.loop-off-test.false in
    let e : c.loop-off.off-index ≡ length c.args.upper.now = omega arith in
    rw c.finish-made.ensures
    (subst (λ m. SwapsFirst m c.args.upper.now c.args.lower.now c.loop-off.kept.items c.loop-off.table.nodes.items) e c.loop-off.invariant.swaps)

pub bounds-lower-on : goal.bounds-lower-on
bounds-lower-on c = omega arith

pub bounds-lower-on-in-loop-off : goal.bounds-lower-on-in-loop-off
bounds-lower-on-in-loop-off c = omega arith
