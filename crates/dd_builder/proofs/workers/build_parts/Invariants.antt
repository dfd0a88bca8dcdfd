use Rattle.std.proofs.Common.{◌≡◌, ℕ, ◌-◌, ◌%◌, ◌<◌}
use Rattle.dd_builder.specs.Parts.{HasPart, Continues}
use Rattle.dd_builder.proofs.workers.build_parts.Given as goal

abbrev pub invariant-loop-piece : goal.invariant-loop-piece
invariant-loop-piece g l = record {
  store : l.session.store ≡ l.store;
  continues : Continues l.source l.fn.session l.session;
  built : (q : ℕ) → q < l.piece → q % l.workers ≡ l.worker - 1 → HasPart l.session q;
}
