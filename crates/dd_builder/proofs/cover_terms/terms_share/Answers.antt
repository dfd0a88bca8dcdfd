use Rattle.std.proofs.Common.{refl, subst}
use Rattle.unique_table.specs.Sessions.{Means}
use Rattle.dd_builder.proofs.SessionSteps.{stays, makes_same}
use Rattle.dd_builder.proofs.Shares.{terms_piece}
use Rattle.dd_builder.proofs.cover_terms.terms_share.Goals as goal

pub returns : goal.returns
returns c = makes_same _ _ _ c.output_share.result _ _ (stays _) c.output_share.ensures (λ id m.
    subst (Means c.output_share.new.session id) (terms_piece c.args.store.now.plan c.args.terms.now c.args.piece _ c.requires.terms c.requires.piece refl) m)
