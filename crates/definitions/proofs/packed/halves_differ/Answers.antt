use Rattle.std.proofs.Common.{arith}
use Rattle.std.proofs.lemmas.Nat.{and_le_r}
use Rattle.definitions.proofs.Bits.Words.{step_is, found_difference, found_none}
use Rattle.definitions.proofs.packed.halves_differ.Goals as goal

pub overflow_shr-result : goal.overflow_shr-result
overflow_shr-result c = grind (arith, step_is)

pub returns-clause-differ : goal.returns-clause-differ
returns-clause-differ c = grind (arith, found_difference, and_le_r)

pub returns-clause-alike : goal.returns-clause-alike
returns-clause-alike c = found_none c.args.word c.args.x c.lower_half.result c.requires c.lower_half.ensures
