use Rattle.std.proofs.Common.{◌≤◌}
use Rattle.std.specs.List.{All}
use Rattle.edge_walks.specs.Blocks.{StandsAt}
use Rattle.edge_walks.proofs.top_tables.top_tables.Given as goal

abbrev pub invariant-loop-x : goal.invariant-loop-x
invariant-loop-x l = record { low : l.y ≤ l.x; each : All (StandsAt l.edges.problem.now l.x) l.tops.items }
