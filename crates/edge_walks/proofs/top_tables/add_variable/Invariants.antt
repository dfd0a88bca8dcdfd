use Rattle.std.proofs.Common.{◌-◌}
use Rattle.edge_walks.proofs.TopTables.{AreTopsTo}
use Rattle.edge_walks.proofs.top_tables.add_variable.Given as goal

abbrev pub invariant-loop-i : goal.invariant-loop-i
invariant-loop-i l = AreTopsTo l.edges.problem.now (l.free - 1) l.free l.made l.tops.items
