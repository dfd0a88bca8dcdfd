use Rattle.edge_walks.specs.Walks.{AreEnough}
use Rattle.edge_walks.proofs.fewer_edges.leave_out_orbits.Given as goal

abbrev pub invariant-loop-set : goal.invariant-loop-set
invariant-loop-set l = AreEnough l.edges l.fewer.items
