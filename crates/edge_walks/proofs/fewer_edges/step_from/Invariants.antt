use Rattle.std.specs.List.{All}
use Rattle.edge_walks.specs.Walks.{AreEnough, LeadsToFirst}
use Rattle.edge_walks.proofs.fewer_edges.step_from.Given as goal

abbrev pub invariant-loop-guide : goal.invariant-loop-guide
invariant-loop-guide l = AreEnough l.edges l.fewer.items × All (LeadsToFirst l.edges l.first) l.reached.sets.items
