use Rattle.std.proofs.Common.{arith}
use Rattle.std.proofs.lemmas.Grind.{common_steps}
use Rattle.compaction.proofs.shared_tables.with_low.Goals as goal

pub add_low-requires-clause-low : goal.add_low-requires-clause-low
add_low-requires-clause-low c = grind arith

pub loop-table-preserved : goal.loop-table-preserved
loop-table-preserved c = grind (arith, common_steps)

pub returns : goal.returns
returns c = grind (arith, common_steps)
