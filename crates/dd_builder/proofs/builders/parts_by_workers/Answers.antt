use Rattle.std.proofs.Common.{subst}
use Rattle.dd_builder.specs.Parts.{IsShareOf, session_of}
use Rattle.dd_builder.proofs.Fullness.{full_never}
use Rattle.dd_builder.proofs.builders.parts_by_workers.Goals as goal

pub returns-in-Ok-join_all-clause-whole : goal.returns-in-Ok-join_all-clause-whole
returns-in-Ok-join_all-clause-whole g c =
    subst (λ z. IsShareOf c.args.source c.args.session 0 (session_of z)) c.in-Ok-join_all.is
    (c.join_all.ensures.whole c.args.source c.args.session c.in-Ok.ensures.shares)

pub returns-in-Err-clause-full : goal.returns-in-Err-clause-full
returns-in-Err-clause-full g c =
    full_never c.args.source c.args.session c.in-Err.full c.args.store.now c.in-Err.ensures.joined.0
    (subst (λ z. IsShareOf c.args.source c.args.session 0 (session_of z)) c.in-Err.is
    (c.join_all.ensures.whole c.args.source c.args.session c.in-Ok.ensures.shares)) c.stores_have_plans.ensures
    c.canonical_ids.ensures.nodes c.canonical_ids.ensures.unequal c.canonical_ids.ensures.size c.canonical_ids.ensures.made c.in-Err.ensures.joined.1
