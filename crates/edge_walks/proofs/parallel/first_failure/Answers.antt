use Rattle.std.proofs.Common.{ℕ, IfSome, Some, subst, arith}
use Rattle.std.proofs.Math.Pow.{pow_mono}
use Rattle.rayon.proofs.ListFacts.{IfOk-then}
use Rattle.definitions.specs.Problems.{functions}
use Rattle.edge_walks.specs.Edges.{EdgeFails, IsFirstEdge}
use Rattle.edge_walks.specs.Walks.{AreEnough}
use Rattle.edge_walks.proofs.FewerEdges.{fewer_tables, first_again}
use Rattle.edge_walks.proofs.SkippedSets.{none_lost}
use Rattle.std.proofs.lemmas.Grind.{common_steps}
use Rattle.edge_walks.proofs.parallel.first_failure.Goals as goal

pub invariant_of-fewer : goal.invariant_of-fewer
invariant_of-fewer g c = grind (arith, fewer_tables)

pub edges_up_to-requires : goal.edges_up_to-requires
edges_up_to-requires g c = grind (arith, pow_mono)

pub invariant_of-early : goal.invariant_of-early
invariant_of-early g c = grind (arith, fewer_tables)

pub returns-in_default-2 : goal.returns-in_default-2
returns-in_default-2 g c = grind (arith, none_lost)

pub returns : goal.returns
returns g c =
    let n = c.args.edges.problem.now.inputs in
    let F = functions c.args.edges.problem.now in
    let v = c.args.edges.values.now in
    let are = subst (λ o. IfSome o (λ w. AreEnough c.args.edges w.items)) c.in-Some.is c.in_ok-judged.ensures in
    let found : ℕ × ℕ = (c.in-Some-2.last, c.in-Some-2.field-0-1) in
    let first =
    subst (λ us. IsFirstEdge (EdgeFails n F v us) (Some found)) c.deref.ensures.value
    (subst (IsFirstEdge (EdgeFails n F v c.deref.result.now)) c.in-Some-2.is c.in_ok-last.ensures) in
    IfOk-then c.first_of_all-3.result _ _ c.first_of_all-3.ensures (λ edge own.
    first_again n F v found edge are first c.in_ok-judged-2.ensures (subst (λ us. IsFirstEdge (EdgeFails n F v us) edge) c.deref-2.ensures.value own))

pub returns-then-not-has_judged : goal.returns-then-not-has_judged
returns-then-not-has_judged g c = grind (arith, common_steps)
