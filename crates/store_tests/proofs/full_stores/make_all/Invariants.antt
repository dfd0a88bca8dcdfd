use Rattle.std.specs.List.{All}
use Rattle.unique_table.specs.Sessions.{Follows, IsKnownBelow}
use Rattle.unique_table.proofs.SessionsGoOn.{IsFrom}
use Rattle.store_tests.proofs.full_stores.make_all.Given as goal

abbrev pub invariant-loop-low : goal.invariant-loop-low
invariant-loop-low g l = record {
  follows : Follows l.fn.session l.session;
  lows : All (IsKnownBelow l.session l.level) l.lows;
  highs : All (IsKnownBelow l.session l.level) l.highs;
  ids : All (IsFrom l.session l.level) l.ids.items;
}

abbrev pub invariant-loop-high : goal.invariant-loop-high
invariant-loop-high g l = record {
  follows : Follows l.fn.session l.session;
  lows : All (IsKnownBelow l.session l.level) l.lows;
  highs : All (IsKnownBelow l.session l.level) l.highs;
  ids : All (IsFrom l.session l.level) l.ids.items;
}
