use Rattle.std.proofs.Common.{arith}
use Rattle.edge_walks.proofs.WalkTables.{stands_start}
use Rattle.edge_walks.proofs.parallel.ThreadPoolWalker.first_of_all.Goals as goal

pub invariant_of-root : goal.invariant_of-root
invariant_of-root g c =
    record { stands = stands_start c.args.edges.problem.now c.inputs-inputs.result c.in_ok-table.table c.inputs-inputs.ensures.value c.in_ok-table.ensures }

pub first_by_tasks-requires : goal.first_by_tasks-requires
first_by_tasks-requires g c = grind arith
