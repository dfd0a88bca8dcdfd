-- Exchanges by which sets and their images lead to each other.
--     guided      an exchange does that keeps values and judged edges
use Rattle.std.proofs.Common.{ℕ, List}
use Rattle.definitions.specs.Problems.{TruthTables, functions}
use Rattle.symmetries.specs.Orbits.{ExchangeOf, IsExchangeOf}
use Rattle.symmetries.proofs.SymmetricWidths.{width_exchanged}
use Rattle.edge_walks.specs.Edges.{AreEdgeTables}
use Rattle.edge_walks.specs.FewerEdges.{AreGuides, AreKept}
use Rattle.edge_walks.proofs.SkippedSets.{leads_to, leads_back}

-- an exchange that keeps values and judged edges
pub guided : (t : TruthTables) (e : ExchangeOf) (values judged : List ℕ) → IsExchangeOf t e → AreEdgeTables t.inputs values judged →
    AreKept t.inputs values judged e.images → AreGuides t.inputs (functions t) values judged e.images
guided t e values judged is tables kept =
    let leads = leads_to t.inputs (functions t) values judged e.partners e.images is.is_exchange is.images_are tables kept
    (width_exchanged t.inputs (functions t) e.partners is.is_exchange is.symmetric) in
    record {
      long = is.images_are.long;
      inside = λ T less. (is.images_are.each T less).small;
      leads = leads;
      back = leads_back t.inputs (functions t) values judged e.partners e.images is.is_exchange is.images_are leads;
    }
