use Rattle.std.proofs.Common.{rules}
use Rattle.pla_reader.proofs.cover.Cover.inputs.Goals as goal

pub returns-clause-value : goal.returns-clause-value
returns-clause-value c = search rules
