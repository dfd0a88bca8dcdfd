-- What is left of a certificate whose edges alone are to be judged.
--     AreEdgesLeft n F cert values judged      the first edge that fails decides the verdict
--     LeavesEdges n F cert left      the first reason but for edges, or what is left
use Rattle.std.specs.Prelude.{ℕ, List, Option, Result, Ok, Err}
use Rattle.definitions.specs.Functions.{Function}
use Rattle.definitions.specs.Certificates as certs
use Rattle.cert_check.specs.declared.verdict.Reason.{Reason}
use Rattle.cert_check.specs.declared.decision.EdgesLeft.{EdgesLeft}
use Rattle.edge_walks.specs.Edges.{AreEdgeTables, EdgeFails, IsFirstEdge}
use Rattle.cert_check.specs.Verdicts.{Judges, edge_verdict, reason_of}

-- the first edge that fails decides the verdict
pub record AreEdgesLeft (n : ℕ) (F : List Function) (cert : certs.Certificate) (values judged : List ℕ) : Type 0 where
  pub edges : AreEdgeTables n values judged
  pub decides : (first : Option (ℕ × ℕ)) → IsFirstEdge (EdgeFails n F values judged) first →
      Judges n F cert (edge_verdict first)

-- the first reason but for those of edges, or what is left
abbrev pub LeavesEdges : ℕ → List Function → certs.Certificate → Result EdgesLeft Reason → Type 0
LeavesEdges n F cert (Ok left) = AreEdgesLeft n F cert left.values.items left.judged.items
LeavesEdges n F cert (Err r) = certs.IsFirstReason n F cert (reason_of r)
