use Rattle.definitions.proofs.Widths.LowerBounds.{bounded_step, bounded_bound}
use Rattle.order_model.proofs.laws.lower_bounds_hold.Goals as goal

pub returns-clause-step : goal.returns-clause-step
returns-clause-step c = bounded_step

pub returns-clause-order : goal.returns-clause-order
returns-clause-order c = bounded_bound
