use Rattle.std.proofs.Common.{◌∷◌, [], ◌++◌, get_or, map, take, sym, ap, ◌∙◌, arith}
use Rattle.std.proofs.lemmas.List.{length-set, map-append, take_all, take_more, take_more_set}
use Rattle.subfunction_classes.specs.Dependence.{joined_mask}
use Rattle.pair_numbering.proofs.masks.join_masks.Goals as goal

pub loop-k-preserved : goal.loop-k-preserved
loop-k-preserved c =
    let pairs = c.args.pairs.now in
    let mask = c.join_mask.result in
    record {
      long = length-set c.loop-k.joined.items c.loop-k.k mask ∙ c.loop-k.invariant.long;
      done =
          take_more_set c.loop-k.joined.items c.loop-k.k mask (omega arith) ∙ (λ t. c.loop-k.invariant.done t ++ c.join_mask.ensures t ∷ [])
          ∙ sym (map-append (joined_mask c.args.masks.now c.args.x) (take c.loop-k.k pairs) (get_or pairs c.loop-k.k (0, 0) ∷ []))
          ∙ ap (map (joined_mask c.args.masks.now c.args.x)) (sym (take_more pairs c.loop-k.k (0, 0) (omega arith)));
    }

pub returns : goal.returns
returns c =
    sym (take_all c.loop-k.k c.loop-k.joined.items (omega arith)) ∙ c.loop-k.invariant.done
    ∙ ap (map (joined_mask c.args.masks.now c.args.x)) (take_all c.loop-k.k c.args.pairs.now (omega arith))
