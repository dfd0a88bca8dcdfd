use Rattle.std.proofs.Common.{◌≡◌, ◌+◌, ◌*◌, ◌∷◌, ◌++◌, [], map, length, sym, ◌∙◌, arith}
use Rattle.std.proofs.lemmas.Nat.{div-mul-add, mod-mul-add}
use Rattle.std.proofs.lemmas.List.FromFn.{map-range_with_len_more}
use Rattle.std.specs.List.{range_with_len}
use Rattle.subfunction_classes.specs.Dependence.{joined_mask}
use Rattle.pair_numbering.specs.Keys.{joined_key_mask}
use Rattle.pair_numbering.proofs.keys.join_key_masks.Goals as goal

pub loop-lower-preserved : goal.loop-lower-preserved
loop-lower-preserved c =
    let masks = c.args.masks.now in
    let count = length masks in
    let key = c.loop-upper.upper * count + c.loop-lower.lower in
    let own : joined_mask masks c.args.x (c.loop-lower.lower, c.loop-upper.upper) ≡ joined_key_mask masks c.args.x key =
    (λ i. joined_mask masks c.args.x (
      sym (mod-mul-add c.loop-upper.upper count c.loop-lower.lower c.loop-lower-test.true) i,
      sym (div-mul-add c.loop-upper.upper count c.loop-lower.lower c.loop-lower-test.true) i,
    )) in
    let next : key + 1 ≡ c.loop-upper.upper * count + (c.loop-lower.lower + 1) = omega arith in
    c.in_ok-push.ensures.items ∙ (λ i. c.loop-lower.invariant i ++ ((c.join_mask.ensures ∙ own) i ∷ []))
    ∙ sym (map-range_with_len_more (joined_key_mask masks c.args.x) 0 key key (omega arith))
    ∙ (λ i. map (joined_key_mask masks c.args.x) (range_with_len 0 (next i)))
