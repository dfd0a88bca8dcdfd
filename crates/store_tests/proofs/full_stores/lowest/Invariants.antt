use Rattle.std.proofs.Common.{◌-◌}
use Rattle.std.specs.List.{All}
use Rattle.unique_table.specs.Sessions.{Follows}
use Rattle.unique_table.proofs.SessionsGoOn.{IsFrom}
use Rattle.store_tests.proofs.full_stores.lowest.Given as goal

abbrev pub invariant-loop-step : goal.invariant-loop-step
invariant-loop-step g l = record {
  follows : Follows l.fn.session l.session;
  ids : All (IsFrom l.session (16 - l.step)) l.ids.items;
}
