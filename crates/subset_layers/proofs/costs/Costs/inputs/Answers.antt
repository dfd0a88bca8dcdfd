use Rattle.std.proofs.Common.{rules}
use Rattle.subset_layers.proofs.costs.Costs.inputs.Goals as goal

pub returns-clause-value : goal.returns-clause-value
returns-clause-value c = search rules
