use Rattle.std.proofs.Common.{Ok, None}
use Rattle.edge_walks.proofs.Parts.{so_far_none, so_far_more, so_far_all}
use Rattle.edge_walks.proofs.parallel.first_of_parts.Goals as goal

pub loop-part-init : goal.loop-part-init
loop-part-init c = so_far_none c.args.parts.now

pub loop-part-preserved : goal.loop-part-preserved
loop-part-preserved c =
    so_far_more c.args.parts.now c.loop-part.part-index c.loop-part.first c.in-Ok.edge c.first_of-first.result (Ok None)
    c.loop-part-test.true c.loop-part.invariant c.in-Ok.is c.first_of-first.ensures

pub returns : goal.returns
returns c = so_far_all c.args.parts.now c.loop-part.part-index c.loop-part.first c.loop-part-test.false c.loop-part.invariant
