use Rattle.truth_table.proofs.TabledNumbers.{values_small}
use Rattle.truth_table.proofs.diagrams.draw_tables.Goals as goal

pub add_levels-requires-clause-small : goal.add_levels-requires-clause-small
add_levels-requires-clause-small c = values_small c.args.tables.now c.args.order.now _ c.in_ok-write_values.ensures.values

pub returns-clause-diagram : goal.returns-clause-diagram
returns-clause-diagram c = c.in_ok-add_levels.ensures.diagram c.args.tables.now c.in_ok-write_values.ensures.values
