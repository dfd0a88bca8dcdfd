use Rattle.std.proofs.Common.{sym, subst}
use Rattle.unique_table.specs.Plans.{order_of, output_at}
use Rattle.unique_table.specs.Sessions.{Means}
use Rattle.dd_builder.specs.Parts.{KeepsFrom}
use Rattle.dd_builder.proofs.SessionSteps.{stays, makes_same}
use Rattle.dd_builder.proofs.RestrictedNodes.{none_fixed}
use Rattle.dd_builder.proofs.roots.root.Goals as goal

pub returns-in-Tables-clause-made : goal.returns-in-Tables-clause-made
returns-in-Tables-clause-made c = makes_same _ _ _ c.of_restrictions.result _ _ (stays _) c.of_restrictions.ensures.made (λ id m.
    subst (Means c.of_restrictions.new.session id)
    (none_fixed (order_of c.args.store.now.plan) (output_at c.args.store.now.plan.problem.value c.args.output)) m)

pub returns-in-Tables-clause-kept : goal.returns-in-Tables-clause-kept
returns-in-Tables-clause-kept c =
    subst (λ z. KeepsFrom z c.args.session.now c.of_restrictions.new.session) (sym c.in-Tables.is) c.of_restrictions.ensures.kept
