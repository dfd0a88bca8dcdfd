use Rattle.std.proofs.Common.{◌∙◌, ap, sym}
use Rattle.symmetries.specs.Renamings.{RenamedOf, RenamingOf, renamed_of}
use Rattle.symmetries.proofs.renaming.Renaming.renamed.Goals as goal

pub returns-in-Some : goal.returns-in-Some
returns-in-Some c =
    ap (λ (r : RenamedOf). r.problem) c.renamed.view_is ∙ sym (ap (renamed_of c.self.inside.problem.now) c.in-Some.is)
    ∙ ap (λ (r : RenamingOf). renamed_of r.problem r.renamed) c.self.view_is

pub returns-in-None : goal.returns-in-None
returns-in-None c =
    sym (ap (renamed_of c.self.inside.problem.now) c.in-None.is) ∙ ap (λ (r : RenamingOf). renamed_of r.problem r.renamed) c.self.view_is
