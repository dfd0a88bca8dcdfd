use Rattle.std.proofs.Common.{sym, ◌∙◌, arith}
use Rattle.layer_board.proofs.Rule.{may_claim}
use Rattle.layer_board.proofs.SeatSteps.{same_table}
use Rattle.layer_board.proofs.boards.Board.claim.Goals as goal

pub fetch_add-place-requires : goal.fetch_add-place-requires
fetch_add-place-requires c =
    let b = c.self.inside in let s = c.seat.inside in (
      same_table b s c.args.self.now c.args.seat.now c.self.invariant c.seat.invariant c.self.view_is c.seat.view_is c.requires,
      omega (arith, c.self.invariant.words),
      may_claim _ _ _ _ (sym c.seat.invariant.ended ∙ c.if-seat.false),
    )
