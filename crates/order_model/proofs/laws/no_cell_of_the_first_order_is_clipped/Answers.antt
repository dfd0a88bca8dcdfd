use Rattle.definitions.proofs.Widths.Clipped.{clip_unclipped}
use Rattle.order_model.proofs.laws.no_cell_of_the_first_order_is_clipped.Goals as goal

pub returns : goal.returns
returns c = clip_unclipped
