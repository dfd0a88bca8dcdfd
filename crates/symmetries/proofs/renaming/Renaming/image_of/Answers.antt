use Rattle.std.proofs.Common.{◌≤◌, ◌<◌, ◌^◌, sym, subst}
use Rattle.std.specs.Prelude.{IfSome}
use Rattle.symmetries.specs.Orbits.{TakesWidths}
use Rattle.symmetries.specs.Renamings.{IsRenamed, RenamingOf, renamed_of}
use Rattle.symmetries.proofs.renaming.Renaming.image_of.Goals as goal

pub returns-in-Some : goal.returns-in-Some
returns-in-Some c =
    let p = c.self.inside.problem.now in
    let image = c.image_of.result in
    let few = subst (λ k. k ≤ 16) c.inputs.ensures.value c.if-prove.false in
    let small = subst (λ (r : RenamingOf). c.args.set < 2 ^ r.problem.inputs) (sym c.self.view_is) c.requires in
    subst (λ (r : RenamingOf). TakesWidths r.problem (renamed_of r.problem r.renamed) c.args.set image.set image.variables) c.self.view_is
    (subst (λ o. TakesWidths p (renamed_of p o) c.args.set image.set image.variables) (sym c.in-Some.is)
    (c.image_of.ensures p few (subst (λ o. IfSome o (IsRenamed p)) c.in-Some.is c.self.invariant) small))

pub returns-in-None : goal.returns-in-None
returns-in-None c =
    let p = c.self.inside.problem.now in
    let image = c.of.result in
    let few = subst (λ k. k ≤ 16) c.inputs.ensures.value c.if-prove.false in
    let small = subst (λ (r : RenamingOf). c.args.set < 2 ^ r.problem.inputs) (sym c.self.view_is) c.requires in
    subst (λ (r : RenamingOf). TakesWidths r.problem (renamed_of r.problem r.renamed) c.args.set image.set image.variables) c.self.view_is
    (subst (λ o. TakesWidths p (renamed_of p o) c.args.set image.set image.variables) (sym c.in-None.is) (c.of.ensures.widths p few small))
