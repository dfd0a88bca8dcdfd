use Rattle.std.proofs.Common.{ap, ◌∙◌}
use Rattle.definitions.specs.KeptPairs.{KeptPairs}
use Rattle.order_solve.specs.SearchStarts.{StartOf}
use Rattle.order_solve.proofs.Harmless.{found_harmless}
use Rattle.order_solve.proofs.solver.find_optimum.Goals as goal

pub returns : goal.returns
returns g c =
    let instance = c.instance_of-instance.ensures in
    found_harmless c.args.sifted.problem c.args.sifted.pairs c.args.start.kept c.instance_of-instance.result c.in_ok-cells.cells
    c.optimum_of.result c.in_ok-cells.ensures
    (instance.problem ∙ c.problem.ensures ∙ ap (λ (s : StartOf). s.problem) c.start.view_is ∙ c.requires.problem_is)
    (ap (λ (k : KeptPairs). k.pairs) instance.pairs ∙ ap (λ (s : StartOf). s.kept) c.start.view_is)
    c.requires.harmless c.optimum_of.ensures.optimum
