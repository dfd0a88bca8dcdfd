use Rattle.std.proofs.Common.{refl}
use Rattle.definitions.proofs.Precedence.Masks.{no_masks, zeros_empty}
use Rattle.definitions.proofs.Precedence.Texts.{masks_none, masks_more, masks_all}
use Rattle.order_model.proofs.pairs.masks_of.Goals as goal

pub loop-i-init : goal.loop-i-init
loop-i-init c = masks_none c.args.pairs.now no_masks refl (zeros_empty no_masks refl)

pub loop-i-preserved : goal.loop-i-preserved
loop-i-preserved c = masks_more c.args.pairs.now c.loop-i.i c.loop-i.below (0, 0) c.loop-i.invariant c.loop-i-test.true c.if-a-ge16.false c.if-b-ge16.false

pub returns-clause-some : goal.returns-clause-some
returns-clause-some c = masks_all c.args.pairs.now c.loop-i.i c.loop-i.below c.loop-i.invariant c.loop-i-test.false
