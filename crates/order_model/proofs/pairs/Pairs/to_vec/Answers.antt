use Rattle.std.proofs.Common.{sym, ◌∙◌, arith}
use Rattle.definitions.proofs.Precedence.MaskLaws.{rows_start, rows_all, row_start, row_pair, row_skip, row_end}
use Rattle.order_model.proofs.pairs.Pairs.to_vec.Goals as goal
use Rattle.order_model.proofs.pairs.Pairs.to_vec.Goals.{then-contains+in_ok-push, else-contains}

pub loop-a-init : goal.loop-a-init
loop-a-init c = c.new-pairs.ensures.items ∙ sym (rows_start c.self.inside.inputs c.self.inside.below)

pub loop-b-init : goal.loop-b-init
loop-b-init c = c.loop-a.invariant ∙ sym (row_start c.self.inside.inputs c.self.inside.below c.loop-a.a)

pub loop-b-preserved : goal.loop-b-preserved
loop-b-preserved c = grind (arith, row_pair, row_skip)

pub loop-a-preserved : goal.loop-a-preserved
loop-a-preserved c = grind (arith, row_end)

pub returns : goal.returns
returns c = grind (arith, rows_all)
