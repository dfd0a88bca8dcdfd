use Rattle.std.proofs.Common.{rules}
use Rattle.definitions.proofs.packed.block.Goals as goal

pub returns : goal.returns
returns c = search rules
