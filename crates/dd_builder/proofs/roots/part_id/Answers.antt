use Rattle.dd_builder.proofs.Ends.{part_there, part_found}
use Rattle.dd_builder.proofs.roots.part_id.Goals as goal

pub unreachable-requires : goal.unreachable-requires
unreachable-requires c =
    part_there c.args.session.now c.collect.new.session c.args.store.now c.args.piece c.collect.ensures.step.follows c.requires.session
    c.requires.piece c.in-None.ensures.none

pub returns-clause-level : goal.returns-clause-level
returns-clause-level c =
    part_found c.args.session.now c.collect.new.session c.args.store.now c.args.piece c.in-Some.id c.collect.ensures.step.follows
    c.requires.session c.requires.piece c.in-Some.ensures.stored
