use Rattle.std.proofs.Common.{subst, sym}
use Rattle.symmetries.proofs.ImageTables.{AreImagesTo, images_more}
use Rattle.symmetries.proofs.images.images_of.Goals as goal

pub loop-x-preserved : goal.loop-x-preserved
loop-x-preserved c =
    subst (AreImagesTo c.args.inputs c.args.partners.now _) (sym c.in_ok-add_variable.ensures)
    (images_more c.args.inputs c.args.partners.now c.loop-x.x c.loop-x.images.items c.requires.exchange c.loop-x-test.true c.loop-x.invariant)
