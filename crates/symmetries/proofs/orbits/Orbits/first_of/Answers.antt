use Rattle.std.proofs.Common.{◌≤◌, subst}
use Rattle.definitions.specs.Problems.{TruthTables}
use Rattle.symmetries.proofs.orbits.Orbits.first_of.Goals as goal

pub returns : goal.returns
returns c =
    let few = subst (λ (p : TruthTables). p.inputs ≤ 16) c.self.view_is (subst (λ k. k ≤ 16) c.inputs.ensures.value c.inputs.ensures.few) in
    c.first_from.ensures c.args.self.now c.args.set few (c.of.ensures.widths c.args.self.now few c.requires)
