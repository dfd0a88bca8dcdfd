use Rattle.std.proofs.Common.{◌≡◌, ◌+◌, ◌-◌, arith}
use Rattle.rayon.proofs.ListFacts.{IfOk-then}
use Rattle.edge_walks.proofs.WalkTables.{stands_upper, upper_set}
use Rattle.edge_walks.proofs.walk.upper_table.Goals as goal

pub returns-clause-set : goal.returns-clause-set
returns-clause-set c =
    let next : c.args.at.free ≡ c.args.at.free - 1 + 1 = omega arith in
    IfOk-then c.with_variable.result _ _ c.with_variable.ensures
    (λ t made. upper_set c.args.at.edges.problem.now (c.args.at.free - 1) c.args.at.free c.args.at.table.now t next c.args.at.stands made)

pub returns-clause-stands : goal.returns-clause-stands
returns-clause-stands c = grind (arith, stands_upper)
