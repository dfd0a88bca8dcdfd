use Rattle.std.proofs.Common.{◌≡◌, ◌*◌, ◌%◌, ◌^◌, ap, ◌∙◌, arith}
use Rattle.std.proofs.lemmas.Nat.{one_shl}
use Rattle.order_counts.proofs.LayerCounts.{whole_if_ok}
use Rattle.order_counts.proofs.layer_counts.CallingThreadCounter.counts_of_layer.Goals as goal

pub returns : goal.returns
returns c =
    let few = c.requires.given.inputs in
    let sets : 1 * 2 ^ c.inputs.result % 18446744073709551616 ≡ 2 ^ c.args.given.pairs.now.inputs =
    one_shl c.inputs.result 64 (omega (arith, few, c.inputs.ensures.value)) ∙ ap (λ k. 2 ^ k) c.inputs.ensures.value in
    whole_if_ok c.args.given c.args.size _ c.counts_of_range.result sets c.counts_of_range.ensures
