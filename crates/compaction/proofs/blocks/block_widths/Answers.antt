use Rattle.std.proofs.Common.{sym, ◌∙◌, arith}
use Rattle.std.proofs.lemmas.Grind.{common_steps}
use Rattle.compaction.proofs.blocks.block_widths.Goals as goal

pub rows_of_block-requires-clause-each : goal.rows_of_block-requires-clause-each
rows_of_block-requires-clause-each c = c.in_ok-byte.ensures.rows.rows.each

pub rows_of_block-requires-clause-inputs : goal.rows_of_block-requires-clause-inputs
rows_of_block-requires-clause-inputs c = c.requires.inputs ∙ sym c.in_ok-byte.ensures.rows.inputs

pub rows_of_block-requires-clause-needed : goal.rows_of_block-requires-clause-needed
rows_of_block-requires-clause-needed c = omega arith

pub rows_of_block-requires-clause-asked : goal.rows_of_block-requires-clause-asked
rows_of_block-requires-clause-asked c = grind arith

pub returns-clause-rows : goal.returns-clause-rows
returns-clause-rows c = c.in_ok-rows.ensures c.args.problem.now c.in_ok-byte.ensures.rows

pub returns-clause-compactions : goal.returns-clause-compactions
returns-clause-compactions c = c.in_ok-byte.ensures.compactions

pub returns-clause-ok : goal.returns-clause-ok
returns-clause-ok c = grind (arith, common_steps)
