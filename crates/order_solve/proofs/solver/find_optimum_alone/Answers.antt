use Rattle.std.proofs.Common.{List, ap, subst}
use Rattle.definitions.specs.KeptPairs.{KeptPairs}
use Rattle.definitions.specs.Pairs.{Pair}
use Rattle.definitions.specs.Problems.{functions}
use Rattle.symmetries.specs.SymmetricPairs.{IsHarmless}
use Rattle.order_solve.proofs.Harmless.{found_harmless}
use Rattle.order_solve.proofs.solver.find_optimum_alone.Goals as goal

pub returns : goal.returns
returns c =
    let t = c.args.problem.now in
    let kept = c.in_ok-pairs.pairs.pairs in
    let instance = c.instance_of-instance.ensures in
    found_harmless t c.args.sifted.pairs kept c.instance_of-instance.result c.in_ok-cells.cells c.optimum_of.result c.in_ok-cells.ensures
    instance.problem (ap (λ (k : KeptPairs). k.pairs) instance.pairs)
    (subst (λ (P : List Pair). IsHarmless t.inputs (functions t) P kept) c.pairs.ensures.value c.in_ok-pairs.ensures.harmless)
    c.optimum_of.ensures.optimum
