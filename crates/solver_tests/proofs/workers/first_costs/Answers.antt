use Rattle.std.proofs.Common.{◌≡◌, ap, ◌∙◌, rules}
use Rattle.subset_layers.specs.Layers.{layer_with}
use Rattle.layer_core.proofs.CellPlaces.{layer_is}
use Rattle.solver_tests.proofs.workers.first_costs.Goals as goal

pub returns : goal.returns
returns g c =
    let made : c.expect-layer.result ≡ layer_with c.inputs.result 1 = search rules in
    layer_is c.args.instance.now 1 c.expect-layer.result c.first_cells-cells.result.items c.of-2.result
    (made ∙ ap (λ n. layer_with n 1) c.inputs.ensures.value) c.of-2.ensures.value c.first_cells-cells.ensures c.of-2.ensures.exact
