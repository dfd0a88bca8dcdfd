use Rattle.std.proofs.Common.{inl, inr, slice_index, sym, subst, arith}
use Rattle.std.specs.List.{All}
use Rattle.std.proofs.lemmas.List.Elements.{All-push}
use Rattle.definitions.specs.Problems.{functions}
use Rattle.symmetries.specs.Orbits.{ExchangeOf}
use Rattle.edge_walks.specs.FewerEdges.{AreGuides, LeadsOn}
use Rattle.edge_walks.specs.Walks.{AreEnough, LeadsToFirst}
use Rattle.edge_walks.proofs.FewerEdges.{fewer_step}
use Rattle.edge_walks.proofs.SkippedSets.{leads_by, leads_on}
use Rattle.edge_walks.proofs.fewer_edges.step_from.Goals as goal
use Rattle.edge_walks.proofs.fewer_edges.step_from.Goals.{then-image-first, else-image-first}

pub loop-guide-preserved : goal.loop-guide-preserved
loop-guide-preserved c =
    let n = c.args.edges.problem.now.inputs in
    let F = functions c.args.edges.problem.now in
    let v = c.args.edges.values.now in
    let j = c.args.edges.judged.now in
    let item = c.guide-item.result in
    let own : AreGuides n F v j item.images = subst (λ (x : ExchangeOf). AreGuides n F v j x.images) (sym c.guide-item.is)
    (c.requires.guides c.loop-guide.guide-index item c.loop-guide-test.true) in
    let guide = subst (AreGuides n F v j) (sym c.images.ensures) own in
    let image = slice_index c.images.result.now c.args.set in
    let leads = leads_by n F v j image c.args.set c.args.first (guide.back c.args.set c.requires.set.0) c.requires.set.1 in
    let enough : AreEnough c.args.edges c.if-image-first.fewer.items = (elim c.if-image-first.branch [
      | then-image-first w ↦ rw (w.fewer-is) (fewer_step (LeadsOn n F v j) j c.loop-guide.fewer.items image
          (omega (arith, guide.inside c.args.set c.requires.set.0, c.args.edges.tables.judged_all)) c.loop-guide.invariant.0
          (leads_on n F v j image c.args.first leads w.if-image-first.true))
      | else-image-first w ↦ rw (w.fewer-is) c.loop-guide.invariant.0
    ]) in
    let all : All (LeadsToFirst c.args.edges c.args.first) c.add.new.self.sets.items = (elim c.in_ok-add.ensures [
      | inl same ↦ subst (All (LeadsToFirst c.args.edges c.args.first)) (sym same) c.loop-guide.invariant.1
      | inr more ↦ subst (All (LeadsToFirst c.args.edges c.args.first)) (sym more)
          (All-push (LeadsToFirst c.args.edges c.args.first) c.loop-guide.reached.sets.items image c.loop-guide.invariant.1
          (guide.inside c.args.set c.requires.set.0, leads))
    ]) in
    (enough, all)
