use Rattle.definitions.proofs.Widths.Cells.{cost_open, cost_known}
use Rattle.order_model.proofs.laws.open_cells_have_least_costs.Goals as goal

pub returns-clause-costs : goal.returns-clause-costs
returns-clause-costs c = cost_open

pub returns-clause-known : goal.returns-clause-known
returns-clause-known c = cost_known
