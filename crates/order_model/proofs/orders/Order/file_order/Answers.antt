use Rattle.std.proofs.Common.{◌++◌, ◌∷◌, [], sym, ap, ◌∙◌, subst, arith}
use Rattle.definitions.specs.Orders.{variables}
use Rattle.definitions.specs.OrderFaults.{Accepts}
use Rattle.definitions.proofs.Lists.Accepted.{accepts_variables, variables_more}
use Rattle.order_model.proofs.orders.Order.file_order.Goals as goal

pub loop-x-preserved : goal.loop-x-preserved
loop-x-preserved c = c.in_ok-push.ensures.items ∙ ap (λ xs. xs ++ c.loop-x.x ∷ []) c.loop-x.invariant ∙ sym (variables_more c.loop-x.x)

pub invariant_of-result : goal.invariant_of-result
invariant_of-result c =
    subst Accepts (ap variables (sym (omega arith)) ∙ sym c.loop-x.invariant) (accepts_variables c.args.n c.requires.some c.requires.few)
