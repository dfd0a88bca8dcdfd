use Rattle.std.proofs.Common.{◌≡◌, ◌≤◌, ◌∙◌, subst, sym}
use Rattle.std.specs.Prelude.{IfSome}
use Rattle.definitions.specs.Problems.{TruthTables}
use Rattle.symmetries.specs.Orbits.{TakesWidths}
use Rattle.symmetries.specs.Renamings.{renamed_of}
use Rattle.compaction.specs.Preparations.{PreparedOf}
use Rattle.compaction.proofs.preparation.Preparation.image_of.Goals as goal

pub returns-in-Some : goal.returns-in-Some
returns-in-Some c =
    let r = c.self.inside.renaming.now in
    let image = c.image_of-image.result in
    let first = c.first_from.result in
    let few = subst (λ (p : TruthTables). p.inputs ≤ 16) c.problem.ensures (subst (λ k. k ≤ 16) c.inputs.ensures.value c.if-prove.false) in
    let is : c.in-Some.orbits ≡ renamed_of r.problem r.renamed =
    subst (λ o. IfSome o (λ t. t ≡ c.self.inside.shared)) c.in-Some.is c.self.invariant.orbits_are ∙ c.self.invariant.shared_is in
    subst (λ (v : PreparedOf). TakesWidths v.problem (renamed_of v.problem v.renamed) c.args.set first.set first.variables) c.self.view_is
    (subst (λ q. TakesWidths r.problem q c.args.set first.set first.variables) is
    (c.first_from.ensures r.problem c.args.set few
    (subst (λ q. TakesWidths r.problem q c.args.set image.set image.variables) (sym is) c.image_of-image.ensures)))
