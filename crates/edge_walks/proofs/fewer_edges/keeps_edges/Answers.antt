use Rattle.std.proofs.Common.{rules}
use Rattle.edge_walks.proofs.fewer_edges.keeps_edges.Goals as goal

pub loop-set-preserved : goal.loop-set-preserved
loop-set-preserved c = search rules

pub bounds-edges-image-in-loop-set : goal.bounds-edges-image-in-loop-set
bounds-edges-image-in-loop-set c = search rules
