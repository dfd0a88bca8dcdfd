use Rattle.unique_table.proofs.SessionsGoOn.{follows_trans}
use Rattle.dd_builder.proofs.operations.top_level.Goals as goal

pub returns-clause-follows : goal.returns-clause-follows
returns-clause-follows c = follows_trans _ _ _ c.level_of-one.ensures.follows c.level_of-two.ensures.follows
