use Rattle.std.proofs.Common.{◌≡◌, ◌≤◌}
use Rattle.unique_table.specs.Plans.{order_of, levels_of}
use Rattle.unique_table.specs.Sessions.{Follows, Means, depth_in}
use Rattle.dd_builder.proofs.Literals.{literals_from}
use Rattle.dd_builder.proofs.cover_terms.term_id.Given as goal

abbrev pub invariant-loop-level : goal.invariant-loop-level
invariant-loop-level l = record {
  store : l.session.store ≡ l.store;
  follows : Follows l.fn.session l.session;
  inside : l.level ≤ levels_of l.store.plan;
  deep : l.level ≤ depth_in l.session l.id;
  means : Means l.session l.id (literals_from (order_of l.store.plan) l.term l.level);
}

abbrev pub decreases-loop-level : goal.decreases-loop-level
decreases-loop-level l = l.level
