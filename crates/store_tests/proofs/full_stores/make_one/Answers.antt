use Rattle.std.proofs.Common.{rules}
use Rattle.unique_table.proofs.SessionsGoOn.{all_from, all_more}
use Rattle.store_tests.proofs.full_stores.make_one.Goals as goal

pub returns-in_default-clause-ids : goal.returns-in_default-clause-ids
returns-in_default-clause-ids g c =
    all_from c.args.session.now c.make.new.session c.args.level c.args.ids.now.items c.make.ensures.goes_on.follows c.requires.ids

pub returns-clause-ids : goal.returns-clause-ids
returns-clause-ids g c =
    all_more c.args.session.now c.make.new.session c.args.level c.in-Ok.id c.args.ids.now.items c.push.new.self.items c.make.ensures.goes_on.follows
    c.requires.ids c.in-Ok.ensures.node.function.known c.in-Ok.ensures.node.depth (search rules)
