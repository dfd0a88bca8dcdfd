use Rattle.edge_walks.specs.Marks.{AreMarked}
use Rattle.cert_check.proofs.edges.mark_edges_by.Given as goal

abbrev pub invariant-loop-number : goal.invariant-loop-number
invariant-loop-number l = AreMarked l.inputs l.pairs l.values l.sources l.x l.number l.judged.items
