use Rattle.std.proofs.Common.{List, subst}
use Rattle.definitions.specs.Pairs.{Pair}
use Rattle.minorder_c.specs.Answers.{IsFirstFewestOf}
use Rattle.minorder_c.proofs.Roots.{optimum_nodes, roots_long}
use Rattle.minorder_c.proofs.exact_diagram.find_diagram.Goals as goal

pub returns-in_ok-make_diagram-clause-diagram : goal.returns-in_ok-make_diagram-clause-diagram
returns-in_ok-make_diagram-clause-diagram c =
    let m = c.make_diagram.new.memory in
    let is = c.in_ok-make_diagram.ensures.diagram in
    λ h. record {
      diagram = is;
      size = optimum_nodes c.args.given.now _ c.optimum.new.order c.optimum.new.levels c.in_ok-total.total m.nodes.items m.roots.items
          c.in_ok-total.ensures.optimum is;
      long = roots_long c.args.given.now c.optimum.new.order m.nodes.items m.roots.items is;
    }

pub returns-in_ok-make_diagram-clause-optimum : goal.returns-in_ok-make_diagram-clause-optimum
returns-in_ok-make_diagram-clause-optimum c =
    subst (λ (P : List Pair). IsFirstFewestOf c.args.given.now P c.optimum.new.order c.optimum.new.levels c.in_ok-total.total) c.none-pairs.ensures.pairs
    c.in_ok-total.ensures.optimum

pub returns-else-total-room-clause-optimum : goal.returns-else-total-room-clause-optimum
returns-else-total-room-clause-optimum c =
    subst (λ (P : List Pair). IsFirstFewestOf c.args.given.now P c.optimum.new.order c.optimum.new.levels c.in_ok-total.total) c.none-pairs.ensures.pairs
    c.in_ok-total.ensures.optimum
