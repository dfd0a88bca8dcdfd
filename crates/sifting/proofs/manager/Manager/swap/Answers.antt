use Rattle.sifting.specs.LevelLists.{HoldsDiagram, nodes_of, problem_at}
use Rattle.sifting.specs.declared.manager.Manager.TheInside.{Inside}
use Rattle.std.proofs.Common.{◌≡◌, ◌+◌, ◌<◌, length, get_or, sym, ap, subst, ◌∙◌, arith, false, ℕ}
use Rattle.definitions.specs.Pairs.{has_pair}
use Rattle.sifting.specs.declared.levels.Level.{Level}
use Rattle.sifting.specs.Leveled.{SwapsLevels}
use Rattle.sifting.specs.Managed.{Managed}
use Rattle.sifting.proofs.ManagerFields.{length-nodes, upper_is, lower_is, upper_few, upper_inside, level_swap_held, level_swap_problem}
use Rattle.sifting.proofs.manager.Manager.swap.Goals as goal

-- both levels are among those that there are
within : (m : Inside) (self : Managed) →
    record { order = m.order; problem = problem_at (nodes_of m.levels.items) m.terminals.items m.order m.roots.items; pairs = m.pairs.pairs } ≡ self →
    HoldsDiagram (nodes_of m.levels.items) m.terminals.items m.order m.roots.items m.pairs → (i : ℕ) → i + 1 < length self.order →
    (i < m.levels.len) × (i + 1 < m.levels.len)
within m self view held i below =
    let a = ap (λ (v : Managed). length v.order) view in
    let b = length-nodes m.levels.items in
    let d = held.leveled.long in
    let e = m.levels.ok.0 in
    (omega arith, omega arith)

pub index-requires : goal.index-requires
index-requires c = (within c.manager.inside c.args.self c.manager.view_is c.manager.invariant c.args.level c.requires.below).0

pub index-requires-2 : goal.index-requires-2
index-requires-2 c = (within c.manager.inside c.args.self c.manager.view_is c.manager.invariant c.args.level c.requires.below).1

pub swap_levels-requires-clause-few : goal.swap_levels-requires-clause-few
swap_levels-requires-clause-few c =
    let s = c.manager.inside in
    let inside = subst (λ (m : Managed). c.args.level + 1 < length m.order) (sym c.manager.view_is) c.requires.below in
    let d = c.index.result.now in
    let upper = upper_is s.levels.items s.terminals.items s.order s.roots.items s.pairs c.manager.invariant c.args.level inside d
    ∙ ap (λ (l : Level). l.nodes.items) (sym c.index.ensures) ∙ sym c.deref.ensures.value in
    upper_few s.levels.items s.terminals.items s.order s.roots.items s.pairs c.manager.invariant c.args.level inside c.deref.result.now upper

pub swap_levels-requires-clause-inside : goal.swap_levels-requires-clause-inside
swap_levels-requires-clause-inside c =
    let s = c.manager.inside in
    let inside = subst (λ (m : Managed). c.args.level + 1 < length m.order) (sym c.manager.view_is) c.requires.below in
    let d = c.index.result.now in
    let d2 = c.index-2.result.now in
    let upper = upper_is s.levels.items s.terminals.items s.order s.roots.items s.pairs c.manager.invariant c.args.level inside d
    ∙ ap (λ (l : Level). l.nodes.items) (sym c.index.ensures) ∙ sym c.deref.ensures.value in
    let lower = lower_is s.levels.items s.terminals.items s.order s.roots.items s.pairs c.manager.invariant c.args.level inside d2
    ∙ ap (λ (l : Level). l.nodes.items) (sym c.index-2.ensures) ∙ sym c.deref-2.ensures.value in
    upper_inside s.levels.items s.terminals.items s.order s.roots.items s.pairs c.manager.invariant c.args.level inside c.deref.result.now
    c.deref-2.result.now upper lower

pub index_mut-requires : goal.index_mut-requires
index_mut-requires c = (within c.manager.inside c.args.self c.manager.view_is c.manager.invariant c.args.level c.requires.below).0

pub index_mut-requires-2 : goal.index_mut-requires-2
index_mut-requires-2 c = (within c.manager.inside c.args.self c.manager.view_is c.manager.invariant c.args.level c.requires.below).1

pub swap-requires : goal.swap-requires
swap-requires c = subst (λ (m : Managed). c.args.level + 1 < length m.order) (sym c.manager.view_is) c.requires.below

pub invariant_of-manager : goal.invariant_of-manager
invariant_of-manager c =
    let s = c.manager.inside in
    let inside = subst (λ (m : Managed). c.args.level + 1 < length m.order) (sym c.manager.view_is) c.requires.below in
    let lawful =
    subst (λ (m : Managed). has_pair m.pairs (get_or m.order c.args.level 0) (get_or m.order (c.args.level + 1) 0) ≡ false)
    (sym c.manager.view_is) c.requires.lawful in
    let d = c.index.result.now in
    let d2 = c.index-2.result.now in
    let upper = upper_is s.levels.items s.terminals.items s.order s.roots.items s.pairs c.manager.invariant c.args.level inside d
    ∙ ap (λ (l : Level). l.nodes.items) (sym c.index.ensures) ∙ sym c.deref.ensures.value in
    let lower = lower_is s.levels.items s.terminals.items s.order s.roots.items s.pairs c.manager.invariant c.args.level inside d2
    ∙ ap (λ (l : Level). l.nodes.items) (sym c.index-2.ensures) ∙ sym c.deref-2.ensures.value in
    let swaps = subst (λ z. z)
    (λ i. SwapsLevels c.deref.result.now c.deref-2.result.now (sym c.replace-upper.ensures.after i).nodes.items
    (sym c.replace-lower.ensures.after i).nodes.items) c.in_ok-upper.ensures in
    level_swap_held s.levels.items s.terminals.items s.order s.roots.items s.pairs c.manager.invariant c.args.level inside c.deref.result.now
    c.deref-2.result.now upper lower lawful
    c.replace-upper.new.dest c.replace-lower.new.dest swaps c.swap.new.self c.swap.ensures

pub returns-clause-functions : goal.returns-clause-functions
returns-clause-functions c =
    let s = c.manager.inside in
    let inside = subst (λ (m : Managed). c.args.level + 1 < length m.order) (sym c.manager.view_is) c.requires.below in
    let lawful =
    subst (λ (m : Managed). has_pair m.pairs (get_or m.order c.args.level 0) (get_or m.order (c.args.level + 1) 0) ≡ false)
    (sym c.manager.view_is) c.requires.lawful in
    let d = c.index.result.now in
    let d2 = c.index-2.result.now in
    let upper = upper_is s.levels.items s.terminals.items s.order s.roots.items s.pairs c.manager.invariant c.args.level inside d
    ∙ ap (λ (l : Level). l.nodes.items) (sym c.index.ensures) ∙ sym c.deref.ensures.value in
    let lower = lower_is s.levels.items s.terminals.items s.order s.roots.items s.pairs c.manager.invariant c.args.level inside d2
    ∙ ap (λ (l : Level). l.nodes.items) (sym c.index-2.ensures) ∙ sym c.deref-2.ensures.value in
    let swaps = subst (λ z. z)
    (λ i. SwapsLevels c.deref.result.now c.deref-2.result.now (sym c.replace-upper.ensures.after i).nodes.items
    (sym c.replace-lower.ensures.after i).nodes.items) c.in_ok-upper.ensures in
    level_swap_problem s.levels.items s.terminals.items s.order s.roots.items s.pairs c.manager.invariant c.args.level inside c.deref.result.now
    c.deref-2.result.now upper lower lawful
    c.replace-upper.new.dest c.replace-lower.new.dest swaps c.swap.new.self c.swap.ensures
    ∙ ap (λ (m : Managed). m.problem) c.manager.view_is
