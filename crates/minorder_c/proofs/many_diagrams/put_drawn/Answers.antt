use Rattle.std.proofs.Common.{◌++◌, ap, ◌∙◌, arith}
use Rattle.minorder_c.proofs.many_diagrams.put_drawn.Goals as goal

pub returns : goal.returns
returns c =
    let found = c.in_ok-total.ensures in
    let drawing = c.find_diagram.new.memory.diagram in
    let before = c.args.drawn.now in
    record {
      put = record {
        order = c.find_diagram.new.order;
        counts = c.find_diagram.new.levels;
        total = c.in_ok-total.total;
        fewest = found.optimum;
        orders_are = c.in_ok-push.ensures.orders;
        levels_are = c.in_ok-push.ensures.levels;
        totals_are = c.in_ok-push.ensures.totals;
      };
      drawn = record {
        own = drawing.nodes.items;
        own_roots = drawing.roots.items;
        is = found.diagram (omega arith);
        nodes_are = c.in_ok-extend_from_slice.ensures.items ∙ ap (λ ns. before.nodes.items ++ ns) c.deref.ensures.value;
        roots_are = c.in_ok-extend_from_slice-2.ensures.items ∙ ap (λ rs. before.roots.items ++ rs) c.deref-2.ensures.value;
      };
    }
