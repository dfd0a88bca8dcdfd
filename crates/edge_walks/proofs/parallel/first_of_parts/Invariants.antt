use Rattle.edge_walks.proofs.Parts.{FirstSoFar}
use Rattle.edge_walks.proofs.parallel.first_of_parts.Given as goal

abbrev pub invariant-loop-part : goal.invariant-loop-part
invariant-loop-part l = FirstSoFar l.parts l.part-index l.first
