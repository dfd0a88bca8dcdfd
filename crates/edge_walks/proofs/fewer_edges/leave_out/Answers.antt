use Rattle.edge_walks.specs.Walks.{LeadsOnIn}
use Rattle.edge_walks.proofs.FewerEdges.{fewer_step}
use Rattle.edge_walks.proofs.fewer_edges.leave_out.Goals as goal
use Rattle.edge_walks.proofs.fewer_edges.leave_out.Goals.{then-index-ne0+then-has_greater_image, else-index-ne0}

pub loop-set-preserved : goal.loop-set-preserved
loop-set-preserved c = elim c.if-index-ne0.branch [
  | then-index-ne0+then-has_greater_image w ↦ rw w.fewer-is
      (fewer_step (LeadsOnIn c.args.edges) c.args.edges.judged.now c.loop-set.fewer.items c.loop-set.set c.loop-set-test.true c.loop-set.invariant
      (w.has_greater_image.ensures w.if-has_greater_image.true))
  | else-index-ne0 w ↦ rw w.fewer-is c.loop-set.invariant
]
