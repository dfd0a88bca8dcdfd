use Rattle.std.proofs.Common.{ℕ, ◌<◌, List, length, get_or, arith, sym, subst}
use Rattle.std.proofs.lemmas.Nat.Bits.{bit_at_set_same, bit_at_set_other}
use Rattle.definitions.specs.Orders.{IsOrder}
use Rattle.definitions.proofs.Lists.Accepted.{seen_more, seen_none, seen_repeated}
use Rattle.definitions.proofs.Precedence.MaskLaws.{keeps_in, broken_at, kept_more}
use Rattle.order_model.proofs.pairs.Pairs.keeps.Goals as goal

pub loop-x-init : goal.loop-x-init
loop-x-init c = (seen_none c.variables-x-items.result.now, λ i j h k. absurd (omega arith))

pub loop-x-preserved : goal.loop-x-preserved
loop-x-preserved c =
    let order = c.variables-x-items.result.now in
    let k = c.loop-x.x-index in
    let x = get_or order k 0 in
    let is = subst (λ (o : List ℕ). IsOrder (length o) o) (sym c.variables-x-items.ensures.value) c.variables-x-items.ensures.order in
    let small : x < 16 =
    grind arith in search (seen_more, seen_repeated, bit_at_set_same, bit_at_set_other, kept_more)

pub returns-then-self-x-ne0 : goal.returns-then-self-x-ne0
returns-then-self-x-ne0 c = grind (arith, broken_at)

pub returns : goal.returns
returns c = grind (arith, keeps_in)
