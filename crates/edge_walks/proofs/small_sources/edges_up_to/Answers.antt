use Rattle.std.proofs.Common.{◌<◌, length, arith}
use Rattle.edge_walks.specs.FewerEdges.{IsPast}
use Rattle.edge_walks.proofs.FewerEdges.{fewer_step}
use Rattle.edge_walks.proofs.small_sources.edges_up_to.Goals as goal
use Rattle.edge_walks.proofs.small_sources.edges_up_to.Goals.{then-smallest_source-last, else-smallest_source-last}

pub loop-set-preserved : goal.loop-set-preserved
loop-set-preserved c =
    let start = c.in_ok-early.ensures.len in
    elim c.if-smallest_source-last.branch [
      | then-smallest_source-last w ↦
          let less : c.loop-set.set < length c.args.judged.now = omega arith in
          let past : IsPast c.args.last c.loop-set.set =
          λ S x e. (omega (arith, c.smallest_source.ensures S x e)) in
          rw (w.early-is) (fewer_step (IsPast c.args.last) c.args.judged.now c.loop-set.early.items c.loop-set.set less c.loop-set.invariant past)
      | else-smallest_source-last w ↦ rw (w.early-is) c.loop-set.invariant
    ]
