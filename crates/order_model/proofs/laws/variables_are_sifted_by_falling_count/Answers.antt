use Rattle.definitions.proofs.Sifting.Falling.{sifting_order_lem}
use Rattle.order_model.proofs.laws.variables_are_sifted_by_falling_count.Goals as goal

pub returns : goal.returns
returns c = sifting_order_lem
