use Rattle.std.proofs.Common.{◌≡◌, ◌-◌}
use Rattle.dd_builder.specs.Parts.{AreJobsOf, HasHalf, AreHalves}
use Rattle.dd_builder.proofs.workers.jobs.Given as goal

abbrev pub invariant-loop-worker : goal.invariant-loop-worker
invariant-loop-worker l = record {
  store : l.rest.store ≡ l.store;
  made : AreJobsOf l.store (l.worker - 1) l.jobs.items;
  rest : HasHalf l.fn.session (l.worker - 1) l.rest;
  halves : AreHalves l.fn.session l.workers l.jobs.items;
}
