use Rattle.definitions.specs.Problems.{packed_tables}
use Rattle.truth_table.proofs.TabledNumbers.{values_small}
use Rattle.truth_table.proofs.diagrams.make_diagram.Goals as goal

pub add_levels-requires-clause-small : goal.add_levels-requires-clause-small
add_levels-requires-clause-small c =
    values_small (packed_tables c.args.n c.args.m c.args.words.now) c.args.order.now _ c.in_ok-write_packed_values.ensures.values

pub returns-clause-diagram : goal.returns-clause-diagram
returns-clause-diagram c =
    c.in_ok-add_levels.ensures.diagram (packed_tables c.args.n c.args.m c.args.words.now) c.in_ok-write_packed_values.ensures.values
