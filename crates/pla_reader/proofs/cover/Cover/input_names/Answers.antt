use Rattle.std.proofs.Common.{rules}
use Rattle.pla_reader.proofs.cover.Cover.input_names.Goals as goal

pub returns-clause-names : goal.returns-clause-names
returns-clause-names c = search rules
