use Rattle.std.proofs.Common.{◌∙◌, ap}
use Rattle.unique_table.specs.Plans.{levels_of}
use Rattle.unique_table.specs.Sessions.{StoreId}
use Rattle.dd_builder.proofs.SessionSteps.{stays, makes_same}
use Rattle.dd_builder.proofs.Unions.{parts_all}
use Rattle.dd_builder.proofs.roots.of_all_shares.Goals as goal

pub returns : goal.returns
returns c = makes_same _ _ _ c.of_shares.result _ _ (stays _) c.of_shares.ensures (λ id m.
    parts_all c.of_shares.new.session c.args.store.now.plan c.args.output id c.stores_have_plans.ensures c.requires.kind c.requires.output
    (ap (λ (z : StoreId). levels_of z.plan) (c.of_shares.ensures.follows.store ∙ c.requires.session.same)) m)
