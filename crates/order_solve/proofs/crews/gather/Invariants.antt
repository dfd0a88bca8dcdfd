use Rattle.std.proofs.Common.{◌≡◌, All, IfOk, vec_len}
use Rattle.order_solve.proofs.crews.gather.Given as goal

abbrev pub invariant-loop-end : goal.invariant-loop-end
invariant-loop-end l = All (λ r. IfOk r (λ e. e.seat.board ≡ l.board)) l.ended.items

abbrev pub decreases-loop-end : goal.decreases-loop-end
decreases-loop-end l = vec_len l.ended
