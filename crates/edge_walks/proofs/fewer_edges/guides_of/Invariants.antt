use Rattle.std.specs.Prelude.{length}
use Rattle.std.specs.List.{All}
use Rattle.symmetries.specs.Orbits.{IsExchangeOf}
use Rattle.edge_walks.specs.Walks.{AreAllGuides}
use Rattle.edge_walks.proofs.fewer_edges.guides_of.Given as goal

abbrev pub decreases-loop-exchange : goal.decreases-loop-exchange
decreases-loop-exchange l = length l.exchanges.items

abbrev pub invariant-loop-exchange : goal.invariant-loop-exchange
invariant-loop-exchange l = All (IsExchangeOf l.edges.problem.now) l.exchanges.items × AreAllGuides l.edges l.guides.items
