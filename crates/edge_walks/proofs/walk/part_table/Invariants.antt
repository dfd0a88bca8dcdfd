use Rattle.std.proofs.Common.{◌≤◌}
use Rattle.edge_walks.specs.Blocks.{IsPartTable, table_or}
use Rattle.edge_walks.proofs.walk.part_table.Given as goal

abbrev pub invariant-loop-x : goal.invariant-loop-x
invariant-loop-x l = record { low : l.end ≤ l.x; is : IsPartTable l.at.table.now l.part l.x (table_or l.own l.at.table.now) }
