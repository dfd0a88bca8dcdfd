use Rattle.std.proofs.Common.{arith}
use Rattle.definitions.proofs.Bits.Words.{step_is}
use Rattle.symmetries.proofs.SymmetricWords.{same_shifted, place_without}
use Rattle.symmetries.proofs.words.changes_across.Goals as goal

pub overflow_shr-result : goal.overflow_shr-result
overflow_shr-result c = let s = step_is c.args.a c.requires in let e = s.0 in let l = s.1 in omega arith

pub returns : goal.returns
returns c none k small one = grind (arith, place_without, same_shifted, step_is)
