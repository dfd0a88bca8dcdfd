use Rattle.std.proofs.Common.{rules}
use Rattle.class_tables.proofs.scratch.Scratch.of.Goals as goal

pub returns : goal.returns
returns c = search rules
