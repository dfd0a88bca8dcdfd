use Rattle.subset_layers.specs.Costs.{costs_with}
use Rattle.subset_layers.proofs.CostLists.{costs_from_cells, have_cells}
use Rattle.subset_layers.proofs.costs.Costs.of.Goals as goal

pub returns-clause-exact : goal.returns-clause-exact
returns-clause-exact c = λ F P r bound t.
    costs_from_cells c.args.layer.inputs F P r bound (costs_with c.args.layer c.args.cells.items)
    (have_cells c.args.layer c.args.cells.items c.requires.inputs c.requires.size c.requires.cells) c.requires.size t
