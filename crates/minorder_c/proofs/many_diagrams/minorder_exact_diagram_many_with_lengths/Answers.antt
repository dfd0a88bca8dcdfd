use Rattle.std.proofs.Common.{◌*◌, ◌++◌, length, drop, refl, sym, ap, ◌∙◌, arith}
use Rattle.minorder_c.specs.declared.arguments.GivenTables.{GivenTables}
use Rattle.minorder_c.proofs.DrawnParts.{drawn_shape, same_drawn}
use Rattle.minorder_c.proofs.Statuses.{other, shape_given}
use Rattle.minorder_c.proofs.many_diagrams.minorder_exact_diagram_many_with_lengths.Goals as goal

pub returns-else-nodes-len-clause-written : goal.returns-else-nodes-len-clause-written
returns-else-nodes-len-clause-written c =
    let nodes = c.deref.result.now in
    let written = c.write.ensures in
    let d = same_drawn _ _ _ _ _ _ _ _ _ _ _ _ _ c.of-given.ensures written.orders written.levels written.totals c.deref.ensures.value
    (c.copy_from_slice.ensures.after ∙ c.deref-in-Ok.ensures.value) c.in-Ok.ensures in
    λ _. record {
      optima = d.optima;
      diagrams = record {
        items = nodes;
        is = d.diagrams;
        long = d.nodes_long;
        front = c.put_front.ensures ∙ ap (λ k. nodes ++ drop k c.args.nodes.now) d.nodes_long;
      };
    }

pub returns-then-nodes-len-clause-short : goal.returns-then-nodes-len-clause-short
returns-then-nodes-len-clause-short c =
    let f = c.in-Ok.found in
    let written = c.write.ensures in
    let d = same_drawn _ _ _ _ _ _ _ _ _ f.nodes.items _ f.roots.items _ c.of-given.ensures written.orders written.levels written.totals refl refl
    c.in-Ok.ensures in
    λ _. record { optima = d.optima; longer = omega (arith, d.nodes_long) }

pub returns-else-nodes-len-clause-short : goal.returns-else-nodes-len-clause-short
returns-else-nodes-len-clause-short c = other 0 7 refl

pub copy_from_slice-requires : goal.copy_from_slice-requires
copy_from_slice-requires c =
    c.is_length.ensures.0 c.if-not-is_length.false ∙ sym (ap length c.deref-in-Ok.ensures.value ∙ c.in-Ok.ensures.roots_long
    ∙ ap (λ (g : GivenTables). length c.args.totals.now * g.outputs) c.of-given.ensures)

pub returns-then-nodes-len-clause-written : goal.returns-then-nodes-len-clause-written
returns-then-nodes-len-clause-written c = other 7 0 refl

pub returns-else-nodes-len-clause-shape : goal.returns-else-nodes-len-clause-shape
returns-else-nodes-len-clause-shape c =
    shape_given 0 refl (drawn_shape _ _ _ _ _ _ c.of-given.ensures (c.is_shape.ensures.0 c.if-not-is_shape.false)
    (c.is_length.ensures.0 c.if-not-is_length.false))

pub returns-then-nodes-len-clause-shape : goal.returns-then-nodes-len-clause-shape
returns-then-nodes-len-clause-shape c =
    shape_given 7 refl (drawn_shape _ _ _ _ _ _ c.of-given.ensures (c.is_shape.ensures.0 c.if-not-is_shape.false)
    (c.is_length.ensures.0 c.if-not-is_length.false))

pub write-requires-clause-orders : goal.write-requires-clause-orders
write-requires-clause-orders c = (c.is_shape.ensures.0 c.if-not-is_shape.false).places_are ∙ sym c.in-Ok.ensures.orders_long

pub write-requires-clause-levels : goal.write-requires-clause-levels
write-requires-clause-levels c = (c.is_shape.ensures.0 c.if-not-is_shape.false).counts_are ∙ sym c.in-Ok.ensures.levels_long

pub returns-in-Err-clause-written : goal.returns-in-Err-clause-written
returns-in-Err-clause-written c e = other 4 0 refl (sym c.status-in-Err.ensures ∙ e)

pub returns-in-Err-clause-short : goal.returns-in-Err-clause-short
returns-in-Err-clause-short c e = other 4 7 refl (sym c.status-in-Err.ensures ∙ e)

pub returns-then-not-is_shape-clause-written : goal.returns-then-not-is_shape-clause-written
returns-then-not-is_shape-clause-written c e = other 2 0 refl (sym c.status.ensures ∙ e)

pub returns-then-not-is_shape-clause-short : goal.returns-then-not-is_shape-clause-short
returns-then-not-is_shape-clause-short c e = other 2 7 refl (sym c.status.ensures ∙ e)
