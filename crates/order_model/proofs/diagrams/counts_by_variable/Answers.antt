use Rattle.std.proofs.Common.{◌∙◌, arith}
use Rattle.std.proofs.lemmas.List.{length-set}
use Rattle.definitions.proofs.Nodes.Counts.{counts_more}
use Rattle.std.proofs.lemmas.Grind.{common_steps}
use Rattle.order_model.proofs.diagrams.counts_by_variable.Goals as goal

pub loop-node-preserved : goal.loop-node-preserved
loop-node-preserved c = record {
  long = length-set c.loop-node.counts _ _ ∙ c.loop-node.invariant.long;
  counted = counts_more c.args.nodes.now c.loop-node.node-index c.loop-node.counts _ c.loop-node.invariant.long c.loop-node-test.true
      c.loop-node.invariant.counted
      (c.requires.variables c.loop-node.node-index _ c.loop-node-test.true);
}

pub overflow_add-counts : goal.overflow_add-counts
overflow_add-counts c = grind (arith, common_steps)
