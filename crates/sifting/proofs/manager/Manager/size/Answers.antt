use Rattle.std.proofs.Common.{subst, ap, ◌∙◌, arith}
use Rattle.std.specs.List.{sum_by}
use Rattle.std.proofs.lemmas.List.{take_all}
use Rattle.std.proofs.lemmas.List.Sums.{sum_by_more_le, sum_by_more}
use Rattle.sifting.specs.declared.levels.Level.{Level}
use Rattle.sifting.proofs.ManagerFields.{sum_small, sum_is_size, held_order}
use Rattle.sifting.specs.LevelLists.{nodes_of}
use Rattle.sifting.specs.Managed.{IsManagedOrder}
use Rattle.sifting.proofs.manager.Manager.size.Goals as goal

pub overflow_add-size : goal.overflow_add-size
overflow_add-size c =
    let s = c.self.inside in
    let items = c.deref-level-items.result.now in
    let more = sum_by_more_le (λ (v : Level). v.count) items c.loop-level.level-index c.level-item.result c.loop-level-test.true in
    let e = ap (λ (v : Level). v.count) c.level-item.is in
    let small = sum_small s.levels.items s.terminals.items s.order s.roots.items s.pairs c.self.invariant items c.deref-level-items.ensures.value in
    let inv = c.loop-level.invariant in
    omega arith

pub loop-level-preserved : goal.loop-level-preserved
loop-level-preserved c = grind (arith, sum_by_more)

pub returns-clause-value : goal.returns-clause-value
returns-clause-value c =
    let s = c.self.inside in
    let items = c.deref-level-items.result.now in
    c.loop-level.invariant ∙ ap (sum_by (λ (v : Level). v.count)) (take_all c.loop-level.level-index items c.loop-level-test.false)
    ∙ sum_is_size s.levels.items s.terminals.items s.order s.roots.items s.pairs c.self.invariant items c.deref-level-items.ensures.value
    c.args.self.now c.self.view_is

pub returns-clause-managed : goal.returns-clause-managed
returns-clause-managed c =
    let s = c.self.inside in
    subst IsManagedOrder c.self.view_is (held_order (nodes_of s.levels.items) s.terminals.items s.order s.roots.items s.pairs c.self.invariant)
