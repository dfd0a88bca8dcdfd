use Rattle.std.proofs.Common.{set, get_or-set_same, get_or-set_other, arith}
use Rattle.std.proofs.lemmas.Bool.{cases_eq}
use Rattle.std.proofs.lemmas.List.{length-set}
use Rattle.symmetries.proofs.orbits.Image.through.Goals as goal

pub loop-x-preserved : goal.loop-x-preserved
loop-x-preserved c = grind (arith, length-set, cases_eq, set, get_or-set_same, get_or-set_other)
