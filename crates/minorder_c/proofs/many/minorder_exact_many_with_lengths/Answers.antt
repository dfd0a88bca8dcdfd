use Rattle.std.proofs.Common.{length, refl, sym, subst, ◌∙◌}
use Rattle.minorder_c.specs.declared.arguments.GivenTables.{GivenTables}
use Rattle.minorder_c.specs.Many.{HasManyShape}
use Rattle.minorder_c.proofs.Parts.{same_answers}
use Rattle.minorder_c.proofs.Statuses.{other, shape_given}
use Rattle.minorder_c.proofs.many.minorder_exact_many_with_lengths.Goals as goal

pub returns-in-Ok-clause-optima : goal.returns-in-Ok-clause-optima
returns-in-Ok-clause-optima c =
    let written = c.write.ensures in
    λ _. same_answers _ _ _ _ _ _ _ _ _ c.of-given.ensures written.orders written.levels written.totals c.in-Ok.ensures.optima

pub write-requires-clause-orders : goal.write-requires-clause-orders
write-requires-clause-orders c = (c.is_shape.ensures.0 c.if-not-is_shape.false).places_are ∙ sym c.in-Ok.ensures.orders

pub write-requires-clause-levels : goal.write-requires-clause-levels
write-requires-clause-levels c = (c.is_shape.ensures.0 c.if-not-is_shape.false).counts_are ∙ sym c.in-Ok.ensures.levels

pub returns-in-Err-clause-optima : goal.returns-in-Err-clause-optima
returns-in-Err-clause-optima c e = other 4 0 refl (sym c.status-in-Err.ensures ∙ e)

pub returns-then-not-is_shape-clause-optima : goal.returns-then-not-is_shape-clause-optima
returns-then-not-is_shape-clause-optima c e = other 2 0 refl (sym c.status.ensures ∙ e)

pub returns-in-Ok-clause-shape : goal.returns-in-Ok-clause-shape
returns-in-Ok-clause-shape c =
    let shape = λ (g : GivenTables). HasManyShape g (length c.args.orders.now) (length c.args.levels.now) (length c.args.totals.now) in
    shape_given 0 refl (subst shape c.of-given.ensures (c.is_shape.ensures.0 c.if-not-is_shape.false))
