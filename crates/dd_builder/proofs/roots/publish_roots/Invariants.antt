use Rattle.std.proofs.Common.{◌≢◌, ℕ, ◌+◌, ◌<◌, slice_index}
use Rattle.unique_table.specs.Sessions.{Follows}
use Rattle.dd_builder.specs.Parts.{KnowsParts, KeepsFrom}
use Rattle.dd_builder.proofs.roots.publish_roots.Given as goal

abbrev pub invariant-loop-output : goal.invariant-loop-output
invariant-loop-output l = record {
  follows : Follows l.fn.session l.session;
  kept : KeepsFrom l.source l.fn.session l.session;
  parts : KnowsParts l.store l.session;
  published : (j : ℕ) → j < l.output → slice_index l.session.pieces (l.store.plan.roots + j) ≢ 0;
}
