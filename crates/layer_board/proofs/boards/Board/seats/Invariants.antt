use Rattle.std.proofs.Common.{◌≡◌, ◌-◌, [], All, vec_len}
use Rattle.layer_board.specs.Views.{fresh, first_seat}
use Rattle.layer_board.proofs.boards.Board.seats.Given as goal

abbrev pub invariant-loop-made : goal.invariant-loop-made
invariant-loop-made l = record {
  table : l.first.table_id ≡ l.self.table;
  view : l.first.me ≡ (fresh l.self.brief (l.count - l.made), []);
  count : vec_len l.seats ≡ l.made;
  each : All (λ s. s ≡ first_seat l.self) l.seats.items;
}
