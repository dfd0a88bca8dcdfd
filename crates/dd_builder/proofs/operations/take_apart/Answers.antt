use Rattle.std.proofs.Common.{arith}
use Rattle.unique_table.proofs.SessionsGoOn.{follows_trans}
use Rattle.dd_builder.proofs.LevelOperations.{cut_follows}
use Rattle.dd_builder.proofs.operations.take_apart.Goals as goal

pub returns-clause-follows : goal.returns-clause-follows
returns-clause-follows c =
    follows_trans _ _ _ c.top_level-level.ensures.follows
    (follows_trans _ _ _ c.children-first.ensures.follows c.children-second.ensures.follows)

pub returns-clause-level : goal.returns-clause-level
returns-clause-level c = grind arith

pub returns-clause-first : goal.returns-clause-first
returns-clause-first c = cut_follows _ _ _ _ _ _ c.children-second.ensures.follows c.children-first.ensures.cut

pub children-second-requires-clause-known : goal.children-second-requires-clause-known
children-second-requires-clause-known c = omega arith
