use Rattle.std.proofs.Common.{[], ◌∷◌, ◌++◌, refl, ap, ◌∙◌, arith}
use Rattle.order_counts.proofs.LayerCounts.{counts_of_none}
use Rattle.order_counts.proofs.layer_counts.counts_of_empty.Goals as goal

pub returns : goal.returns
returns c = λ n F P. counts_of_none n F P c.args.limit (record { least = 0; orders = c.push.new.self }) (let some = c.if-limit-eq0.false in omega arith) refl
    (c.in_ok-push.ensures.items ∙ ap (λ xs. xs ++ 1 ∷ []) c.in_ok-orders.ensures.items)
