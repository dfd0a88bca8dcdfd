use Rattle.std.proofs.Common.{arith, sym, subst}
use Rattle.layer_core.specs.Instances.{InstanceOf}
use Rattle.solutions.specs.Bounded.{IsBounded}
use Rattle.small_search.proofs.PlainSearches.{plain}
use Rattle.small_search.proofs.search.instance_of.Goals as goal

pub returns-clause-bounded : goal.returns-clause-bounded
returns-clause-bounded c =
    let k = c.inputs-2.ensures.kept in
    let i = c.inputs.ensures in
    let o = c.outputs.ensures in
    subst (λ (t : InstanceOf). IsBounded t) (sym c.new.ensures)
    (plain c.args.problem.now c.args.pairs.now c.requires k (omega (arith, i.value, i.few)) (omega (arith, o.value, o.few))).bounded
