use Rattle.std.proofs.Common.{◌<◌, arith, length, sym, subst}
use Rattle.symmetries.specs.Orbits.{IsAfter}
use Rattle.symmetries.specs.Renamings.{RenamedOf}
use Rattle.symmetries.proofs.ImageWidths.{renamed_after}
use Rattle.symmetries.proofs.renaming.Renamed.image_of.Goals as goal

pub returns : goal.returns
returns c p few is small =
    let image = c.of.result in
    let same = c.of.ensures.set in
    let inside : c.args.set < length c.args.self.now.exchange.images = omega (arith, is.images_are.long) in
    let after =
    subst (λ (r : RenamedOf). image.set < length r.exchange.images → IsAfter r.exchange image.set image.variables c.after.result.set c.after.result.variables)
    c.self.view_is c.after.ensures in
    renamed_after p c.args.self.now c.args.set c.after.result.set image.variables c.after.result.variables few is small c.of.ensures.own
    (subst (λ S. IsAfter c.args.self.now.exchange S image.variables c.after.result.set c.after.result.variables) same
    (after (subst (λ S. S < length c.args.self.now.exchange.images) (sym same) inside)))
