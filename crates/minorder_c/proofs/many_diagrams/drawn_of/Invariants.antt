use Rattle.minorder_c.proofs.DrawnParts.{AreDrawnSoFar}
use Rattle.minorder_c.proofs.many_diagrams.drawn_of.Given as goal

abbrev pub invariant-loop-i : goal.invariant-loop-i
invariant-loop-i l =
    AreDrawnSoFar l.given l.i l.drawn.answers.orders.items l.drawn.answers.levels.items l.drawn.answers.totals.items l.drawn.nodes.items
    l.drawn.roots.items
