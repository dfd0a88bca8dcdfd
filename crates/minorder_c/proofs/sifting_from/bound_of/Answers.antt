use Rattle.std.proofs.Common.{◌∙◌}
use Rattle.definitions.proofs.Widths.SizeBounds.{order_length}
use Rattle.minorder_c.proofs.sifting_from.bound_of.Goals as goal

pub sifted_from-requires-clause-long : goal.sifted_from-requires-clause-long
sifted_from-requires-clause-long c = order_length c.args.pairs.inputs c.in_ok-start.start c.in_ok-start.ensures.is_order ∙ c.requires
