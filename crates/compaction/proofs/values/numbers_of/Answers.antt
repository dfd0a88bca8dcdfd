use Rattle.std.proofs.Common.{◌++◌, ◌∷◌, [], ap, sym, ◌∙◌, arith}
use Rattle.std.proofs.lemmas.List.FromFn.{map-range_with_len_more}
use Rattle.subfunction_classes.specs.Values.{number_of}
use Rattle.compaction.specs.NamedStrips.{number_in}
use Rattle.compaction.proofs.values.numbers_of.Goals as goal

pub loop-place-preserved : goal.loop-place-preserved
unfolding number_in
loop-place-preserved c =
    c.in_ok-push.ensures.items
    ∙ (λ i. c.loop-place.invariant i ++ ((c.number_of_value.ensures ∙ ap (number_of c.args.first) c.bit_of-value.ensures) i ∷ []))
    ∙ sym (map-range_with_len_more (number_in c.args.first c.args.strips.now) 0 c.loop-place.place c.loop-place.place (omega arith))
