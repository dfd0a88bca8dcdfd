use Rattle.std.proofs.Common.{arith}
use Rattle.definitions.proofs.Bits.Words.{step_is}
use Rattle.truth_table.proofs.FixedBits.{upper_bit, lower_bit}
use Rattle.truth_table.proofs.fixed_variables.fixed_word.Goals as goal
use Rattle.truth_table.proofs.fixed_variables.fixed_word.Goals.{then-upper, else-upper}

pub overflow_shr-half : goal.overflow_shr-half
overflow_shr-half c = omega (arith, step_is c.args.x c.requires)

pub overflow_shl-result : goal.overflow_shl-result
overflow_shl-result c = omega (arith, step_is c.args.x c.requires)

pub returns : goal.returns
returns c = λ k h.
    let step = (step_is c.args.x c.requires).0 in
    grind (arith, upper_bit, lower_bit)
