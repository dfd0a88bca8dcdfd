use Rattle.std.proofs.Common.{◌≡◌, ℕ, ◌+◌, ◌-◌, ◌<◌, List, take, get_or, length, map, refl, sym, ap, subst, arith}
use Rattle.std.proofs.lemmas.List.{length-map}
use Rattle.std.specs.List.{All}
use Rattle.definitions.specs.Levels.{reach}
use Rattle.definitions.specs.Problems.{functions}
use Rattle.truth_table.specs.declared.levels.NumberedNode.{NumberedNode}
use Rattle.truth_table.specs.Levels.{node_named}
use Rattle.truth_table.specs.Reduced.{graph_named}
use Rattle.truth_table.proofs.LevelDiagrams.{Leveled, level_few, leveled_leaves, leveled_step, leveled_top}
use Rattle.truth_table.proofs.TabledNumbers.{refs_small}
use Rattle.truth_table.proofs.diagrams.add_levels.Goals as goal

pub loop-level-init : goal.loop-level-init
loop-level-init c =
    let order = c.args.order.now in
    record {
      leveled = λ t v. subst (λ (ns : List NumberedNode). Leveled t.inputs (reach (functions t) (take (length order) order)) order (length order)
          (map node_named ns) c.args.memory.now.roots.items) (sym c.clear.ensures.items)
          (leveled_leaves t.inputs order t.tables (length order) c.args.memory.now.roots.items v.is_order (omega arith) v.values_are);
      few = omega (arith, ap length c.clear.ensures.items);
      refs = λ k d h. let below = c.requires.small k d h in omega (arith, below);
    }

pub loop-level-preserved : goal.loop-level-preserved
loop-level-preserved c =
    let order = c.args.order.now in
    let at : c.from.result ≡ get_or order (c.loop-level.level - 1) 0 = c.from.ensures in
    let fewer = level_few c.from.result (map node_named c.loop-level.memory.nodes.items) c.loop-level.memory.roots.items
    (map node_named c.add_level.new.nodes.items) c.add_level.new.numbers.items c.in_ok-add_level.ensures in
    let few = c.loop-level.invariant.few in
    record {
      leveled = λ t v. leveled_step t.inputs (functions t) order c.loop-level.level c.from.result
          (map node_named c.loop-level.memory.nodes.items) (map node_named c.add_level.new.nodes.items) c.loop-level.memory.roots.items
          c.add_level.new.numbers.items c.loop-level-test.true c.loop-level.auto.level v.is_order at (c.loop-level.invariant.leveled t v)
          c.in_ok-add_level.ensures;
      few = omega (arith, fewer, length-map c.loop-level.memory.nodes.items node_named, length-map c.add_level.new.nodes.items node_named);
      refs = subst (λ (k : ℕ). All (λ c. c < k + 2) c.add_level.new.numbers.items) (length-map c.add_level.new.nodes.items node_named)
          (refs_small c.from.result (map node_named c.loop-level.memory.nodes.items) c.loop-level.memory.roots.items
          (map node_named c.add_level.new.nodes.items) c.add_level.new.numbers.items c.in_ok-add_level.ensures
          (subst (λ (k : ℕ). All (λ c. c < k + 2) c.loop-level.memory.roots.items) (sym (length-map c.loop-level.memory.nodes.items node_named))
          c.loop-level.invariant.refs));
    }

pub returns-clause-diagram : goal.returns-clause-diagram
returns-clause-diagram c =
    let order = c.args.order.now in
    let m = c.loop-level.memory in
    λ t v.
    let leveled = c.loop-level.invariant.leveled t v in
    record {
      diagram = leveled_top t.inputs (functions t) order c.loop-level.level (map node_named m.nodes.items) m.roots.items v.is_order
          c.loop-level-test.false leveled (record { order = order; graph = graph_named m.nodes.items m.roots.items }) refl refl refl;
      by_level = leveled.by_level;
    }
