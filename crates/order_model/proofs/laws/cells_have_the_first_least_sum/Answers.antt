use Rattle.definitions.proofs.Widths.Cells.{found}
use Rattle.order_model.proofs.laws.cells_have_the_first_least_sum.Goals as goal

pub returns : goal.returns
returns c =
    λ n F P order r bound mask x costs widths o k given l least room. found n F P order o k r bound mask costs widths given x l least.member
    least.affordable least.least least.first room
