use Rattle.std.proofs.Common.{◌≡◌, ℕ, ◌%◌, ◌<◌, ◌≤◌, MatchBool, vec_len}
use Rattle.unique_table.specs.Sessions.{Knowledge}
use Rattle.dd_builder.specs.declared.parts.Source.{Source}
use Rattle.dd_builder.specs.Building.{KnowsFull}
use Rattle.dd_builder.specs.Parts.{HasPart, AreEndsOf, AreSharesOf, IsShareOf}
use Rattle.dd_builder.proofs.workers.join_all.Given as goal

abbrev pub invariant-loop-next : goal.invariant-loop-next
invariant-loop-next l = record {
  store : l.session.store ≡ l.store;
  ends : AreEndsOf l.store l.workers l.ended.items;
  few : vec_len l.ended < l.workers;
  found : MatchBool l.full (KnowsFull l.session) ((q : ℕ) → q < l.session.store.plan.roots → vec_len l.ended ≤ q % l.workers → HasPart l.session q);
  whole : (source : Source) (from : Knowledge) → AreSharesOf source from l.workers l.fn.ended.items →
      AreSharesOf source from l.workers l.ended.items × IsShareOf source from (vec_len l.ended) l.session;
}

abbrev pub decreases-loop-next : goal.decreases-loop-next
decreases-loop-next l = vec_len l.ended
