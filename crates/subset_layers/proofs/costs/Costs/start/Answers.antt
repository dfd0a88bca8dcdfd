use Rattle.std.proofs.Common.{◌≡◌, sym, ap₂, subst}
use Rattle.subset_layers.specs.Costs.{CostsOf, start_costs, costs_with, AreTrueCosts}
use Rattle.subset_layers.proofs.CostLists.{start_true}
use Rattle.subset_layers.proofs.costs.Costs.start.Goals as goal

pub returns-clause-exact : goal.returns-clause-exact
returns-clause-exact c = λ F P r bound.
    let e : start_costs c.args.inputs ≡ costs_with c.in_ok-layer.layer c.new.result.items =
    ap₂ costs_with (sym c.in_ok-layer.ensures) (sym c.new.ensures.items) in
    subst (λ (v : CostsOf). AreTrueCosts c.args.inputs F P r bound v) e (start_true c.args.inputs F P r bound)
