use Rattle.std.proofs.Common.{arith}
use Rattle.definitions.proofs.Precedence.MaskLaws.{lawful_in, unlawful_in, bits_inside, bit_beyond}
use Rattle.order_model.proofs.pairs.Pairs.lawful.Goals as goal
use Rattle.order_model.proofs.pairs.Pairs.lawful.Goals.{else-below-set-ne0-via-then-below-set-ne0+else-contains, else-below-set-ne0-via-else-below-set-ne0}

pub loop-a-init : goal.loop-a-init
loop-a-init c a b h = absurd (omega arith)

pub loop-a-preserved : goal.loop-a-preserved
loop-a-preserved c a b h e bit = grind (arith, bits_inside)

pub returns : goal.returns
returns c = grind (arith, lawful_in)

pub returns-then-contains : goal.returns-then-contains
returns-then-contains c = grind (arith, bit_beyond, unlawful_in)
