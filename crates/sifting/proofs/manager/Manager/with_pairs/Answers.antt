use Rattle.std.proofs.Common.{rules, subst, ◌∙◌}
use Rattle.sifting.specs.LevelLists.{nodes_of}
use Rattle.sifting.specs.Managed.{truth_tables_of}
use Rattle.sifting.specs.Cuts.{IsBuilt}
use Rattle.sifting.proofs.BuiltLevels.{built_problem}
use Rattle.sifting.proofs.manager.Manager.with_pairs.Goals as goal

pub invariant_of-result : goal.invariant_of-result
invariant_of-result c = search rules

pub returns-clause-functions : goal.returns-clause-functions
returns-clause-functions c =
    let d = c.into_parts-order in
    let numbers = c.in_ok-built.built.roots.items in
    let levels = nodes_of c.in_ok-built.built.levels.items in
    let terminals = c.in_ok-built.built.terminals.items in
    let one = subst (λ os. IsBuilt os c.deref.result.now c.deref-2.result.now numbers levels terminals) c.variables.ensures.value c.in_ok-built.ensures in
    let two = subst (λ ns. IsBuilt d.result.0 ns c.deref-2.result.now numbers levels terminals) c.deref.ensures.value one in
    let built = subst (λ rs. IsBuilt d.result.0 d.result.1.items rs numbers levels terminals) c.deref-2.ensures.value two in
    built_problem d.result.0 d.result.1.items d.result.2.items numbers levels terminals built
    ∙ (λ i. truth_tables_of (record { order = d.ensures.order i; graph = record { nodes = d.ensures.nodes i; roots = d.ensures.roots i } }))
