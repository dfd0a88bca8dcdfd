use Rattle.std.proofs.Common.{arith}
use Rattle.truth_table.proofs.NumberedNodes.{more_past, place_found, place_past}
use Rattle.truth_table.proofs.levels.place_of.Goals as goal

pub returns-then-high-node-clause-place : goal.returns-then-high-node-clause-place
returns-then-high-node-clause-place c =
    place_found c.args.base c.loop-place.place c.args.children c.args.nodes.now _ (omega arith) (omega arith) c.loop-place.invariant
    c.if-low-node.true c.if-high-node.true

pub loop-place-preserved : goal.loop-place-preserved
loop-place-preserved c =
    more_past c.args.base c.loop-place.place c.args.children c.args.nodes.now _ (omega arith) (omega arith) c.loop-place.invariant
    c.else-low-node.either

pub returns-clause-place : goal.returns-clause-place
returns-clause-place c = place_past c.args.base c.loop-place.place c.args.children c.args.nodes.now (omega arith) (omega arith) c.loop-place.invariant
