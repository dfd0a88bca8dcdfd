use Rattle.std.proofs.Common.{◌≡◌, ◌<◌, ◌+◌, length, sym, ◌∙◌, subst, arith}
use Rattle.std.proofs.lemmas.List.{set-get_or}
use Rattle.definitions.proofs.Precedence.Closure.{JoinedTo, joined_none, joined_set, joined_all}
use Rattle.order_model.proofs.pairs.join_through.Goals as goal
use Rattle.order_model.proofs.pairs.join_through.Goals.{then-contains, else-contains}

pub loop-mask-init : goal.loop-mask-init
loop-mask-init c = joined_none c.args.reached.now c.args.k

pub loop-mask-preserved : goal.loop-mask-preserved
loop-mask-preserved c =
    let i = c.loop-mask.mask-index in
    let later = c.loop-mask.reached in
    elim c.if-contains.branch [
      | then-contains w ↦ subst (JoinedTo c.args.reached.now c.args.k (i + 1)) (sym w.reached-is)
          (joined_set c.args.reached.now c.args.k i later c.loop-mask.invariant (inside (c.loop-mask.invariant.long ∙ c.told-reached))
          (c.contains.ensures.0 w.if-contains.true))
      | else-contains w ↦ grind (arith, set-get_or)
    ]
  where
    inside : length c.loop-mask.reached ≡ 16 → c.loop-mask.mask-index < length c.loop-mask.reached
    inside e = omega arith

pub returns : goal.returns
returns c = grind (arith, joined_all)
