use Rattle.std.proofs.Common.{arith}
use Rattle.edge_walks.proofs.EdgeMarks.{first_same}
use Rattle.edge_walks.proofs.FirstEdges.{judged_within}
use Rattle.edge_walks.proofs.WalkTables.{stands_start}
use Rattle.edge_walks.proofs.parallel.CallingThreadWalker.first_of_all.Goals as goal

pub invariant_of-root : goal.invariant_of-root
invariant_of-root c =
    record { stands = stands_start c.args.edges.problem.now c.inputs.result c.in_ok-table.table c.inputs.ensures.value c.in_ok-table.ensures }

pub returns : goal.returns
returns c = grind (arith, first_same, judged_within)
