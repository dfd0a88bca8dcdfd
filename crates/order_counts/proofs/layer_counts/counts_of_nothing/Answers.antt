use Rattle.std.proofs.Common.{◌+◌, [], ◌∷◌, ◌++◌, sym, ap, ◌∙◌, subst, arith, ◌≡◌, ◌*◌, ◌%◌, ◌^◌}
use Rattle.std.proofs.lemmas.Nat.{zero_from_ones, one_shl, pow_pos}
use Rattle.order_counts.proofs.LayerCounts.{AreCountsTo, counts_to_more, counts_to_one, counts_to_all}
use Rattle.order_counts.proofs.layer_counts.counts_of_nothing.Goals as goal

pub loop-set-init : goal.loop-set-init
loop-set-init c =
    counts_to_one c.args.given c.in_ok-counts_of_empty.field-0 c.push.new.self.items
    (c.in_ok-push.ensures.items ∙ ap (λ xs. xs ++ c.in_ok-counts_of_empty.field-0 ∷ []) c.in_ok-counts.ensures.items) c.in_ok-counts_of_empty.ensures

pub loop-set-preserved : goal.loop-set-preserved
loop-set-preserved c =
    subst (AreCountsTo c.args.given 0 (c.loop-set._set + 1)) (sym c.in_ok-push-2.ensures.items)
    (counts_to_more c.args.given 0 c.loop-set._set c.loop-set.counts.items c.none.result c.loop-set.invariant
    (λ ones. absurd (let z = zero_from_ones c.loop-set._set ones in let some = c.loop-set.auto._set in omega arith)))

pub returns : goal.returns
returns c =
    let n = c.args.given.pairs.now.inputs in
    let sets : 1 * 2 ^ c.inputs.result % 18446744073709551616 ≡ 2 ^ n =
    one_shl c.inputs.result 64 (omega (arith, c.requires.given.inputs, c.inputs.ensures.value)) ∙ ap (λ k. 2 ^ k) c.inputs.ensures.value in
    counts_to_all c.args.given 0 c.loop-set._set c.loop-set.counts.items
    (omega (arith, c.loop-set-test.false, c.loop-set.auto._set-end, sets, pow_pos n)) c.loop-set.invariant
