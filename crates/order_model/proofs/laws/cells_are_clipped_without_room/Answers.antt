use Rattle.definitions.proofs.Widths.Cells.{clipped}
use Rattle.order_model.proofs.laws.cells_are_clipped_without_room.Goals as goal

pub returns : goal.returns
returns c = λ n F P order r bound mask z costs widths o k given m none. clipped n F P order o k r bound mask costs widths given z m none
