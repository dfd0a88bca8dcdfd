use Rattle.std.proofs.Common.{slice_index, sym, subst}
use Rattle.definitions.specs.Problems.{functions}
use Rattle.symmetries.specs.Orbits.{ExchangeOf}
use Rattle.edge_walks.specs.FewerEdges.{AreGuides}
use Rattle.edge_walks.proofs.SkippedSets.{leads_on}
use Rattle.edge_walks.proofs.fewer_edges.has_greater_image.Goals as goal

pub returns-then-images-set : goal.returns-then-images-set
returns-then-images-set c t =
    let n = c.args.edges.problem.now.inputs in
    let F = functions c.args.edges.problem.now in
    let v = c.args.edges.values.now in
    let j = c.args.edges.judged.now in
    let item = c.guide-item.result in
    let own : AreGuides n F v j item.images = subst (λ (x : ExchangeOf). AreGuides n F v j x.images) (sym c.guide-item.is)
    (c.requires.guides c.loop-guide.guide-index item c.loop-guide-test.true) in
    let guide = subst (AreGuides n F v j) (sym c.images.ensures) own in
    leads_on n F v j c.args.set (slice_index c.images.result.now c.args.set) (guide.leads c.args.set c.requires.set) c.if-images-set.true
