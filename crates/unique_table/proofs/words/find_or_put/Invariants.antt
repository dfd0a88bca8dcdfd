use Rattle.std.proofs.Common.{◌≡◌, ℕ, ◌*◌, ◌<◌}
use Rattle.node_words.specs.Nodes.{IsTaken, probe}
use Rattle.unique_table.specs.Seats.{IsNodeWord, Searches}
use Rattle.unique_table.proofs.words.find_or_put.Given as goal

abbrev pub invariant-loop-passed : goal.invariant-loop-passed
invariant-loop-passed l = record {
  searches : Searches l.shared l.fn.seat l.seat l.word (2 * l.passed);
  word : IsNodeWord l.shared l.seat l.word;
  before : (j : ℕ) → j < l.passed → IsTaken l.seat.me.0.seen l.word (probe l.places l.word j);
  writes : l.seat.me.0.writes ≡ l.fn.seat.me.0.writes;
}
