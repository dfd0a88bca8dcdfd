use Rattle.std.proofs.Common.{◌≡◌, ◌<◌, ℕ, false, map, length, get_or, ap, ◌∙◌, arith}
use Rattle.std.proofs.lemmas.Grind.{common_steps}
use Rattle.std.proofs.lemmas.List.{append-nil}
use Rattle.std.specs.List.{filter, range_with_len}
use Rattle.definitions.specs.Orders.{has}
use Rattle.compaction.specs.Strips.{masks_in_use}
use Rattle.compaction.proofs.UsedNumbers.{in_use_more, in_use_same}
use Rattle.compaction.proofs.strips.used_masks.Goals as goal
use Rattle.compaction.proofs.strips.used_masks.Goals.{then-occurs+in_ok-push, else-occurs}

pub loop-number-init : goal.loop-number-init
loop-number-init c = grind (arith, common_steps)

pub index_mut-requires : goal.index_mut-requires
index_mut-requires c = grind arith

pub loop-number-preserved : goal.loop-number-preserved
loop-number-preserved c = grind (arith, common_steps)

pub loop-k-preserved : goal.loop-k-preserved
loop-k-preserved c = grind (arith, in_use_more, then-occurs+in_ok-push, else-occurs, append-nil)

pub returns : goal.returns
unfolding masks_in_use
returns c =
    let masks = c.args.masks.now in
    let v = c.deref-occurs-items.ensures.value in
    let l = ap length v in
    let t = c.loop-k-test.false in
    let m = c.loop-number.invariant.long in
    let labels : (j : ℕ) → j < length masks → get_or c.loop-number.used.items j false ≡ has c.args.numbers.now j = grind (arith, common_steps) in
    let same : c.loop-k.k ≡ length masks = (let e = c.loop-k.auto.k-end in omega arith) in
    c.loop-k.invariant ∙ ap (λ z. map (λ j. get_or masks j 0) (filter (λ j. get_or c.deref-occurs-items.result.now j false) (range_with_len 0 z))) same
    ∙ ap (map (λ j. get_or masks j 0)) (in_use_same (λ j. get_or c.deref-occurs-items.result.now j false) (has c.args.numbers.now) (length masks)
    (λ j h. ap (λ us. get_or us j false) v ∙ labels j h))
