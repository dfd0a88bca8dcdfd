use Rattle.std.proofs.Common.{◌+◌, ◌-◌, ◌^◌, arith}
use Rattle.std.proofs.Math.Pow.{pow_mono}
use Rattle.std.proofs.lemmas.Nat.{one_shl, pow_pos}
use Rattle.definitions.specs.Problems.{functions}
use Rattle.edge_walks.proofs.FirstEdges.{none_judged}
use Rattle.subfunction_classes.proofs.HighSets.{double}
use Rattle.edge_walks.proofs.walk.has_upper_judged.Goals as goal

pub overflow_add-set : goal.overflow_add-set
overflow_add-set c = grind (arith, one_shl, double, pow_pos, pow_mono)

pub has_judged-requires : goal.has_judged-requires
has_judged-requires c = grind (arith, one_shl, double)

pub returns : goal.returns
returns c none =
    let P = c.args.at.edges.problem.now in
    let x = c.args.at.free - 1 in
    let shift = one_shl x 16 (omega arith) in
    none_judged P.inputs (functions P) c.args.at.edges.values.now c.args.at.edges.judged.now c.args.at.edges.tables.judged_all
    (c.args.at.table.now.set + 2 ^ x) x (λ T low high. c.has_judged.ensures none T (omega arith) (omega arith))
