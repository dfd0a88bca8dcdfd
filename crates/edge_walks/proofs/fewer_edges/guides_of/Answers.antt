use Rattle.std.proofs.Common.{Some, sym, subst, arith}
use Rattle.std.specs.List.{All}
use Rattle.std.proofs.lemmas.Grind.{common_steps}
use Rattle.std.proofs.lemmas.List.Elements.{All-pop, All-push}
use Rattle.definitions.specs.Problems.{functions}
use Rattle.symmetries.specs.Orbits.{ExchangeOf, IsExchangeOf}
use Rattle.edge_walks.specs.FewerEdges.{AreGuides, AreKept}
use Rattle.edge_walks.specs.Walks.{AreAllGuides}
use Rattle.edge_walks.proofs.Guides.{guided}
use Rattle.edge_walks.proofs.fewer_edges.guides_of.Goals as goal

pub loop-exchange-preserved-in-Continue-branch-2 : goal.loop-exchange-preserved-in-Continue-branch-2
loop-exchange-preserved-in-Continue-branch-2 c =
    let P = c.args.edges.problem.now in
    let v = c.args.edges.values.now in
    let j = c.args.edges.judged.now in
    let popped = All-pop (IsExchangeOf P) c.loop-exchange.exchanges.items c.pop.new.self.items (Some c.in-Some.exchange) c.in-Some.ensures.items
    c.loop-exchange.invariant.0 in
    let kept = subst (AreKept P.inputs v j) c.images.ensures (c.keeps_edges.ensures c.if-keeps_edges.true) in
    let guide = guided P c.in-Some.exchange v j popped.1 c.args.edges.tables kept in (
      popped.0,
      subst (All (λ (g : ExchangeOf). AreGuides P.inputs (functions P) v j g.images)) (sym c.in_ok-push.ensures.items)
          (All-push (λ (g : ExchangeOf). AreGuides P.inputs (functions P) v j g.images) c.loop-exchange.guides.items c.in-Some.exchange
          c.loop-exchange.invariant.1 guide),
    )

pub loop-exchange-preserved : goal.loop-exchange-preserved
loop-exchange-preserved c = grind (arith, common_steps)

pub loop-exchange-init : goal.loop-exchange-init
loop-exchange-init c = (
  c.in_ok-exchanges.ensures,
  subst (AreAllGuides c.args.edges) (sym c.new-guides.ensures.items) (λ k d low. absurd (omega (arith, low))),
)
