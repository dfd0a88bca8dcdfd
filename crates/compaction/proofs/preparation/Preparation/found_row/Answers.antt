use Rattle.std.proofs.Common.{◌≤◌, subst, arith}
use Rattle.definitions.specs.Problems.{TruthTables}
use Rattle.symmetries.specs.Renamings.{renamed_of}
use Rattle.compaction.proofs.preparation.Preparation.found_row.Goals as goal

pub returns : goal.returns
returns c =
    let v = c.args.self.now in
    let few = subst (λ k. k ≤ 16) c.inputs.ensures.value c.if-prove.false in
    c.row_by_image.ensures v.problem (renamed_of v.problem v.renamed) c.args.set
    (subst (λ (p : TruthTables). p.inputs ≤ 16) c.problem.ensures few)
    c.in_ok-byte.ensures.rows c.requires.image (omega (arith, c.in_ok-byte.ensures.low)) c.requires.members
