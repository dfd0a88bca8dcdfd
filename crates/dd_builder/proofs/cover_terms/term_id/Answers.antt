use Rattle.std.proofs.Common.{arith}
use Rattle.unique_table.proofs.SessionsGoOn.{follows_trans}
use Rattle.dd_builder.proofs.SessionSteps.{stays, makes_refused}
use Rattle.dd_builder.proofs.Literals.{literals_from, literals_none, literals_more, term_means}
use Rattle.dd_builder.proofs.cover_terms.term_id.Goals as goal

pub loop-level-init : goal.loop-level-init
loop-level-init c = grind (arith, stays, literals_none)

pub loop-level-preserved : goal.loop-level-preserved
loop-level-preserved c = grind (arith, follows_trans, literals_more, literals_from)

pub returns : goal.returns
returns c = grind (arith, term_means)

pub returns-in_err-id : goal.returns-in_err-id
returns-in_err-id c = makes_refused _ _ _ _ _ _ _ c.loop-level.invariant.follows c.in_err-id.ensures.made c.from_residual.ensures.0
