use Rattle.std.proofs.Common.{arith, sym}
use Rattle.definitions.proofs.Precedence.Masks.{row_small}
use Rattle.definitions.proofs.Precedence.MaskLaws.{rows_all, rows_none, rows_more, row_few}
use Rattle.order_model.proofs.pairs.Pairs.count.Goals as goal

pub loop-a-init : goal.loop-a-init
loop-a-init c = (sym (rows_none c.self.inside.inputs c.self.inside.below), omega arith)

pub loop-a-preserved : goal.loop-a-preserved
loop-a-preserved c =
    let n = c.self.inside.inputs in
    let small = row_small n c.self.inside.below c.self.invariant.within c.loop-a.a in
    grind (arith, rows_more, row_few)

pub returns-clause-value : goal.returns-clause-value
returns-clause-value c = grind (arith, rows_all)
