use Rattle.symmetries.proofs.ImageTables.{AreImagesTo}
use Rattle.symmetries.proofs.images.images_of.Given as goal

abbrev pub invariant-loop-x : goal.invariant-loop-x
invariant-loop-x l = AreImagesTo l.inputs l.partners l.x l.images.items
