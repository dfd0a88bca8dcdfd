use Rattle.dd_builder.specs.Parts.{MayBeFull}
use Rattle.dd_builder.proofs.SessionSteps.{err_same}
use Rattle.dd_builder.proofs.Fullness.{full_from}
use Rattle.dd_builder.proofs.builders.build_in.Goals as goal

pub returns-clause-full : goal.returns-clause-full
returns-clause-full g c =
    err_same (MayBeFull c.args.source c.in_ok-session.session) (MayBeFull c.args.source c.args.session) c.finish.result c.finish.ensures.full
    (λ e may. full_from c.args.source c.args.session c.in_ok-session.session e c.in_ok-session.ensures.whole may)
