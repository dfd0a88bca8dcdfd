use Rattle.std.proofs.Common.{sym, subst}
use Rattle.dd_builder.specs.Parts.{KeepsFrom}
use Rattle.dd_builder.proofs.parts.part.Goals as goal

pub returns-in-Tables-clause-kept : goal.returns-in-Tables-clause-kept
returns-in-Tables-clause-kept c =
    subst (λ z. KeepsFrom z c.args.session.now c.restriction.new.session) (sym c.in-Tables.is) c.restriction.ensures.kept
