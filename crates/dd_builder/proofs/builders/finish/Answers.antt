use Rattle.std.proofs.Common.{◌∙◌}
use Rattle.dd_builder.proofs.SharedStakes.{share_all}
use Rattle.dd_builder.proofs.Fullness.{full_never}
use Rattle.dd_builder.proofs.builders.finish.Goals as goal

pub returns-in_default-clause-full : goal.returns-in_default-clause-full
returns-in_default-clause-full c =
    full_never c.args.source c.args.session c.publish_roots.new.session c.args.store (c.publish_roots.ensures.follows.store ∙ c.requires.session.same)
    (share_all c.args.source c.args.session c.publish_roots.new.session
    record { follows = c.publish_roots.ensures.follows; kept = c.publish_roots.ensures.kept })
    c.stores_have_plans.ensures c.canonical_ids.ensures.nodes c.canonical_ids.ensures.unequal c.canonical_ids.ensures.size c.canonical_ids.ensures.made
    c.in_default.ensures.full
