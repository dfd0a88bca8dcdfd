use Rattle.std.proofs.Common.{◌+◌, ◌<◌, ◌^◌, [], ◌∷◌, length, length-append, sym, ap, ◌∙◌, subst}
use Rattle.symmetries.specs.Orbits.{AreKept, KeepsWidths}
use Rattle.symmetries.proofs.ImageWidths.{pushed_kept}
use Rattle.symmetries.proofs.orbits.own_images.Goals as goal

pub loop-set-preserved : goal.loop-set-preserved
loop-set-preserved c =
    let items = c.loop-set.images.items in
    let is = c.in_ok-push.ensures.items in
    let long = c.loop-set.invariant.long in
    record {
      long = ap length is ∙ length-append items (c.of.result ∷ []) ∙ ap (λ n. n + 1) long;
      kept = λ p few. subst (AreKept p) (sym is)
          (pushed_kept p items c.of.result (c.loop-set.invariant.kept p few)
          (λ small. subst (λ k. KeepsWidths p k c.of.result.set c.of.result.variables) (sym long)
          (c.of.ensures.widths p few (subst (λ k. k < 2 ^ p.inputs) long small))));
    }
