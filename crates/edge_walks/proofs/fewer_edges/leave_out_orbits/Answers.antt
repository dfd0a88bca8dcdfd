use Rattle.std.proofs.Common.{arith}
use Rattle.definitions.proofs.Bits.Masks.{power_small}
use Rattle.edge_walks.proofs.fewer_edges.leave_out_orbits.Goals as goal

pub overflow_cast-set : goal.overflow_cast-set
overflow_cast-set c =
    let p = power_small c.args.edges.problem.now.inputs c.args.edges.tables.few in
    omega (arith, c.args.edges.tables.judged_all, c.loop-set-test.true)
