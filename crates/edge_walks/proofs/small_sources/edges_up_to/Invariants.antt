use Rattle.edge_walks.specs.FewerEdges.{AreFewer, IsPast}
use Rattle.edge_walks.proofs.small_sources.edges_up_to.Given as goal

abbrev pub invariant-loop-set : goal.invariant-loop-set
invariant-loop-set l = AreFewer (IsPast l.last) l.judged l.early.items
