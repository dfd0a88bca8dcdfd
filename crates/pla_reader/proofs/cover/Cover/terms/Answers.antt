use Rattle.std.proofs.Common.{rules}
use Rattle.pla_reader.proofs.cover.Cover.terms.Goals as goal

pub returns-clause-products : goal.returns-clause-products
returns-clause-products c = search rules
