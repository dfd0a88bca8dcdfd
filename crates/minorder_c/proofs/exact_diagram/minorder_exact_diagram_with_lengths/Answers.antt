use Rattle.std.proofs.Common.{length, refl, ap, sym, ◌∙◌, arith}
use Rattle.minorder_c.specs.declared.arguments.GivenTables.{GivenTables}
use Rattle.minorder_c.proofs.Optima.{held_optimum, optimum_shape, same_optimum}
use Rattle.minorder_c.proofs.Statuses.{other, shape_given}
use Rattle.minorder_c.proofs.exact_diagram.minorder_exact_diagram_with_lengths.Goals as goal

pub copy_from_slice-requires-in-Ok : goal.copy_from_slice-requires-in-Ok
copy_from_slice-requires-in-Ok c =
    let shape = c.has_call_shape.ensures.0 c.if-not-has_call_shape.false in
    shape.counts_are ∙ sym (c.in-Ok.ensures.counts ∙ c.split_at_mut-found_levels.ensures.front_len ∙ shape.places_are)

pub copy_from_slice-requires-in-Ok-2 : goal.copy_from_slice-requires-in-Ok-2
copy_from_slice-requires-in-Ok-2 c =
    c.if-roots-outputs.false
    ∙ sym (ap length c.deref-in-Ok.ensures.value ∙ (c.in-Ok.ensures.diagram (omega arith)).long ∙ ap (λ (g : GivenTables). g.outputs) c.of-given.ensures)

pub returns-in-Ok-clause-written : goal.returns-in-Ok-clause-written
returns-in-Ok-clause-written c =
    let is = c.in-Ok.ensures in
    λ _. held_optimum c.of-given.result _ _ _ _ _ _ _ _ _ _ _ _ c.of-given.ensures c.copy_from_slice.ensures.after c.copy_from_slice-in-Ok.ensures.after
    c.deref.ensures.value (c.copy_from_slice-in-Ok-2.ensures.after ∙ c.deref-in-Ok.ensures.value) c.put_front.ensures is.optimum (is.diagram (omega arith))

pub returns-then-nodes-size-clause-short : goal.returns-then-nodes-size-clause-short
returns-then-nodes-size-clause-short c =
    λ _. record {
      optimum = same_optimum c.of-given.result _ _ _ _ _ _ _ c.of-given.ensures c.copy_from_slice.ensures.after c.copy_from_slice-in-Ok.ensures.after
          c.in-Ok.ensures.optimum;
      longer = c.if-nodes-size.true;
    }

pub returns-in-Ok-clause-short : goal.returns-in-Ok-clause-short
returns-in-Ok-clause-short c = other 0 7 refl

pub returns-then-nodes-size-clause-written : goal.returns-then-nodes-size-clause-written
returns-then-nodes-size-clause-written c = other 7 0 refl

pub returns-clause-written : goal.returns-clause-written
returns-clause-written c e = other 4 0 refl (sym c.status-in-Err.ensures ∙ e)

pub returns-clause-short : goal.returns-clause-short
returns-clause-short c e = other 4 7 refl (sym c.status-in-Err.ensures ∙ e)

pub returns-in-Ok-clause-shape : goal.returns-in-Ok-clause-shape
returns-in-Ok-clause-shape c =
    shape_given 0 refl (optimum_shape _ _ _ _ _ c.of-given.ensures (c.has_call_shape.ensures.0 c.if-not-has_call_shape.false) c.if-roots-outputs.false)

pub returns-then-nodes-size-clause-shape : goal.returns-then-nodes-size-clause-shape
returns-then-nodes-size-clause-shape c =
    shape_given 7 refl (optimum_shape _ _ _ _ _ c.of-given.ensures (c.has_call_shape.ensures.0 c.if-not-has_call_shape.false) c.if-roots-outputs.false)
