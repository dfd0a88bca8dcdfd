use Rattle.std.proofs.Common.{◌≡◌, ◌<◌, ℕ, length, get_or, subst, arith}
use Rattle.std.proofs.lemmas.Bool.{iff_false}
use Rattle.std.proofs.lemmas.Nat.Bits.{bit_at_set_same, bit_at_set_other}
use Rattle.definitions.proofs.Lists.Accepted.{Seen, seen_none, seen_repeated, seen_more, seen_all}
use Rattle.order_model.proofs.orders.has_repeat.Goals as goal

pub loop-x-init : goal.loop-x-init
loop-x-init c = seen_none c.args.variables.now

pub returns-then-contains-clause-repeated : goal.returns-then-contains-clause-repeated
returns-then-contains-clause-repeated c = grind (arith, seen_repeated)

pub loop-x-preserved : goal.loop-x-preserved
loop-x-preserved c =
    let x : ℕ = get_or c.args.variables.now c.loop-x.x-index 0 in
    let small : x < 16 = c.requires c.loop-x.x-index 0 c.loop-x-test.true in
    search (seen_more, iff_false, bit_at_set_same, bit_at_set_other)

pub returns-clause-distinct : goal.returns-clause-distinct
returns-clause-distinct c =
    let e : c.loop-x.x-index ≡ length c.args.variables.now = omega arith in
    λ _. seen_all c.args.variables.now c.loop-x.seen (subst (λ (k : ℕ). Seen c.args.variables.now k c.loop-x.seen) e c.loop-x.invariant)
