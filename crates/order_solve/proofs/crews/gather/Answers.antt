use Rattle.std.proofs.Common.{◌≡◌, Result, IfOk, IfSome, subst}
use Rattle.std.proofs.lemmas.List.Elements.{All-pop}
use Rattle.std.specs.declared.alloc.AllocError.{AllocError}
use Rattle.layer_board.specs.Views.{BoardId}
use Rattle.layer_work.specs.declared.worker.WorkerResult.{WorkerResult}
use Rattle.order_solve.proofs.crews.gather.Goals as goal

-- a worker that ends well was at the board
abbrev EndsAt : BoardId → Result WorkerResult AllocError → Type 0
EndsAt b r = IfOk r (λ e. e.seat.board ≡ b)

pub loop-end-preserved : goal.loop-end-preserved
loop-end-preserved c = (All-pop (EndsAt c.args.board.now) _ _ _ c.pop-in-loop-end.ensures.items c.loop-end.invariant).0

pub returns : goal.returns
returns c =
    let at = EndsAt c.args.board.now in
    subst at c.in_ok-seat.was (subst (λ o. IfSome o at) c.unwrap.ensures (All-pop at _ _ _ c.pop.ensures.items c.requires.seats).1)
