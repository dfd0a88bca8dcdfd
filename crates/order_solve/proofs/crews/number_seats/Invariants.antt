use Rattle.std.proofs.Common.{◌≡◌, ◌+◌, ◌≤◌, All, vec_len}
use Rattle.order_solve.proofs.crews.number_seats.Given as goal

abbrev pub invariant-loop-seat : goal.invariant-loop-seat
invariant-loop-seat l = record {
  few : vec_len l.seats ≤ 64;
  count : vec_len l.jobs + vec_len l.seats ≡ vec_len l.fn.seats;
  left : All (λ s. s.board ≡ l.board) l.seats.items;
  numbered : All (λ j. j.seat.board ≡ l.board) l.jobs.items;
}

abbrev pub decreases-loop-seat : goal.decreases-loop-seat
decreases-loop-seat l = vec_len l.seats
