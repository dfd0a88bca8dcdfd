use Rattle.std.specs.List.{All}
use Rattle.edge_walks.specs.Walks.{AreEnough, LeadsToFirst}
use Rattle.edge_walks.proofs.fewer_edges.leave_out_orbit.Given as goal

abbrev pub invariant-loop-place : goal.invariant-loop-place
invariant-loop-place l = AreEnough l.edges l.fewer.items × All (LeadsToFirst l.edges l.first) l.reached.sets.items
