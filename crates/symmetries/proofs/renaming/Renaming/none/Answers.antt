use Rattle.std.proofs.Common.{refl}
use Rattle.symmetries.proofs.renaming.Renaming.none.Goals as goal

pub returns-clause-own : goal.returns-clause-own
returns-clause-own c = refl
