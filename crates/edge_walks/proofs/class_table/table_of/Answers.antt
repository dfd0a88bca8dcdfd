use Rattle.std.proofs.Common.{arith}
use Rattle.edge_walks.specs.Tables.{classes_at, table_at}
use Rattle.subfunction_classes.proofs.OneMoreVariable.{few_masks}
use Rattle.edge_walks.proofs.Full.{full_of}
use Rattle.edge_walks.proofs.class_table.table_of.Goals as goal

pub overflow_cast-result : goal.overflow_cast-result
overflow_cast-result c =
    let r = c.requires in
    let f = few_masks (classes_at (table_at c.args.problem.now c.args.set c.args.level)) r.whole c.args.numbered.masks.items r.holds in
    omega arith

pub invariant_of-result : goal.invariant_of-result
invariant_of-result c = grind (arith, full_of)
