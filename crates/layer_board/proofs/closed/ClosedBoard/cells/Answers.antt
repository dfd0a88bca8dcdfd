use Rattle.std.proofs.Common.{◌≡◌, length, arith}
use Rattle.std.proofs.lemmas.List.{take_all, length-map}
use Rattle.subset_layers.specs.Layers.{masks_of}
use Rattle.layer_board.specs.declared.closed.ClosedBoard.TheInside as closed
use Rattle.layer_board.specs.Views.{ClosedBoardOf}
use Rattle.layer_board.specs.Closed.{closed_board, IsClosedBoard}
use Rattle.layer_board.proofs.Words.{cells_length}
use Rattle.layer_board.proofs.ClosedBoards.{all_cells}
use Rattle.std.proofs.lemmas.Grind.{common_steps}
use Rattle.layer_board.proofs.closed.ClosedBoard.cells.Goals as goal

-- each mask has a place for its cell
as_many : (c : closed.Inside) (C : ClosedBoardOf) → IsClosedBoard c → closed_board c ≡ C → length C.cells ≡ length (masks_of C.brief.layer)
as_many c C k is = grind (arith, length-map, cells_length)

pub returns-clause-cells : goal.returns-clause-cells
returns-clause-cells c = grind (arith, as_many, all_cells, take_all)

pub returns-clause-all : goal.returns-clause-all
returns-clause-all c = grind (arith, common_steps)

pub loop-place-preserved : goal.loop-place-preserved
loop-place-preserved c = grind (arith, common_steps)
