use Rattle.edge_walks.proofs.top_tables.first_from_tops.Given as goal

abbrev pub invariant-loop-table : goal.invariant-loop-table
invariant-loop-table l = Unit {0}
