use Rattle.std.proofs.Common.{sym, ap, ◌∙◌, arith}
use Rattle.layer_board.specs.Views.{BoardId}
use Rattle.layer_board.specs.Invariant.{Sat}
use Rattle.layer_board.proofs.Rule.{may_split}
use Rattle.layer_board.proofs.boards.Board.seats.Goals as goal

pub split_seat-seat-requires : goal.split_seat-seat-requires
split_seat-seat-requires c =
    let n = ap (λ (m : Sat). m.0.seats) c.loop-made.invariant.view in (
      c.loop-made.invariant.table ∙ sym (ap (λ (z : BoardId). z.table) c.self.view_is),
      omega (arith, c.self.invariant.words),
      may_split _ _ _ (omega (arith, n, c.loop-made-test.true, c.loop-made.auto.made-end, c.requires.some)),
    )
