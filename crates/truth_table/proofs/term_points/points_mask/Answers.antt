use Rattle.std.proofs.Common.{arith}
use Rattle.definitions.proofs.Bits.Words.{step_is}
use Rattle.truth_table.proofs.TermWords.{mask_step, free_bits_few, free_bits_all}
use Rattle.truth_table.proofs.term_points.points_mask.Goals as goal

pub overflow_shl-result-then-n-lt6 : goal.overflow_shl-result-then-n-lt6
overflow_shl-result-then-n-lt6 c = omega (arith, step_is c.args.n c.if-n-lt6.true)

pub overflow_sub-result : goal.overflow_sub-result
overflow_sub-result c = mask_step c.args.n c.if-n-lt6.true

pub returns-then-n-lt6 : goal.returns-then-n-lt6
returns-then-n-lt6 c = λ b h. free_bits_few c.args.n c.if-n-lt6.true b h

pub returns-else-n-lt6 : goal.returns-else-n-lt6
returns-else-n-lt6 c = λ b h. free_bits_all c.args.n c.if-n-lt6.false b h
