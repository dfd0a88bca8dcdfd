use Rattle.std.proofs.Common.{rules}
use Rattle.subset_layers.proofs.layers.Layer.len.Goals as goal

pub returns : goal.returns
returns c = search rules
