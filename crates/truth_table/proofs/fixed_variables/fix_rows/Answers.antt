use Rattle.std.proofs.Common.{arith}
use Rattle.truth_table.proofs.FixedBits.{row_done, row_rest}
use Rattle.truth_table.proofs.fixed_variables.fix_rows.Goals as goal

pub loop-i-preserved : goal.loop-i-preserved
loop-i-preserved c = grind (arith, row_done, row_rest)
