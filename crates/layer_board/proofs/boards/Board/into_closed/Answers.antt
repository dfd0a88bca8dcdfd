use Rattle.std.proofs.Common.{refl, ap, sym, ◌∙◌}
use Rattle.std.specs.Slots.{slots_items}
use Rattle.layer_board.specs.Views.{BoardId, SeatOf}
use Rattle.layer_board.specs.Held.{view_of}
use Rattle.layer_board.proofs.ClosedBoards.{is_last}
use Rattle.layer_board.proofs.boards.Board.into_closed.Goals as goal

pub returns-clause-last : goal.returns-clause-last
returns-clause-last c =
    let r = c.close_with.result in
    is_last c.self.inside.table.shared.key (view_of c.seat.inside) c.seat.inside.seat.id (slots_items r.words) (slots_items r.slots)
    c.close_with.ensures.values.2 c.args.seat _
    (ap (λ (z : BoardId). z.brief) c.requires ∙ sym (ap (λ (z : BoardId). z.brief) c.self.view_is))
    (sym (ap (λ (z : SeatOf). z.worker) c.seat.view_is))
    (ap (λ (z : BoardId). z.brief) c.of-board.ensures ∙ sym (ap (λ (z : BoardId). z.brief) c.self.view_is)) refl
