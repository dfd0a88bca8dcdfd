use Rattle.std.proofs.Common.{◌≡◌, ◌≢◌, ℕ, ◌<◌, Some, None, map, take, get_or}
use Rattle.layer_core.specs.Pairing.{pair_of}
use Rattle.layer_board.proofs.closed.ClosedBoard.cells.Given as goal

abbrev pub invariant-loop-place : goal.invariant-loop-place
invariant-loop-place l = record {
  full : (q : ℕ) → q < l.place → get_or l.self.cells q None ≢ None;
  cells_are : map (λ c. Some (pair_of c)) l.cells.items ≡ take l.place l.self.cells;
}
