use Rattle.std.proofs.Common.{◌≡◌, ◌*◌, ◌/◌, ◌%◌, ◌^◌, ◌∷◌, [], ◌++◌, get_or, set, take, sym, ap, ◌∙◌, subst, arith, bit_and, bit_or}
use Rattle.std.proofs.lemmas.List.{take_more, take_all}
use Rattle.std.proofs.lemmas.Nat.{and_mask, one_shl}
use Rattle.small_search.specs.Counting.{AreOccurring}
use Rattle.small_search.proofs.ValueSets.{none_occur, one_occurs}
use Rattle.small_search.proofs.values.occurring.Goals as goal

pub loop-value-init : goal.loop-value-init
loop-value-init c = none_occur

pub loop-value-preserved : goal.loop-value-preserved
loop-value-preserved c =
    let vs = c.args.values.now in
    let i = c.loop-value.value-index in
    let v = get_or vs i 0 in
    let found = c.loop-value.first in
    let m = and_mask v 6 in
    let small = c.requires c.if-size-le2.true i c.loop-value-test.true in
    let word : v / 64 ≡ 0 = omega (arith, small) in
    let bit : 1 * 2 ^ bit_and v 63 % 2 ^ 64 ≡ 2 ^ (v % 64) = ap (λ k. 1 * 2 ^ k % 2 ^ 64) m ∙ one_shl (v % 64) 64 (omega arith) in
    subst (λ us. AreOccurring us (bit_or found (1 * 2 ^ bit_and v 63 % 2 ^ 64) ∷ 0 ∷ 0 ∷ 0 ∷ []))
    (sym (take_more vs i 0 c.loop-value-test.true))
    (subst (λ k. AreOccurring (take i vs ++ v ∷ [])
    (set (found ∷ 0 ∷ 0 ∷ 0 ∷ []) k (bit_or (get_or (found ∷ 0 ∷ 0 ∷ 0 ∷ []) k 0) (1 * 2 ^ bit_and v 63 % 2 ^ 64)))) word
    (one_occurs (take i vs) (found ∷ 0 ∷ 0 ∷ 0 ∷ []) v (1 * 2 ^ bit_and v 63 % 2 ^ 64) (omega (arith, small)) bit c.loop-value.invariant))

pub returns-then-size-le2 : goal.returns-then-size-le2
returns-then-size-le2 c = subst (λ us. AreOccurring us (c.loop-value.first ∷ 0 ∷ 0 ∷ 0 ∷ []))
    (take_all c.loop-value.value-index c.args.values.now c.loop-value-test.false) c.loop-value.invariant

pub loop-value-2-init : goal.loop-value-2-init
loop-value-2-init c = none_occur

pub loop-value-2-preserved : goal.loop-value-2-preserved
loop-value-2-preserved c =
    let vs = c.args.values.now in
    let i = c.loop-value-2.value-index in
    let v = get_or vs i 0 in
    let m = and_mask v 6 in
    let f = c.type_inv.values i in
    let bit : 1 * 2 ^ bit_and v 63 % 2 ^ 64 ≡ 2 ^ (v % 64) = ap (λ k. 1 * 2 ^ k % 2 ^ 64) m ∙ one_shl (v % 64) 64 (omega arith) in
    subst (λ us. AreOccurring us (set c.loop-value-2.found (v / 64) (bit_or (get_or c.loop-value-2.found (v / 64) 0) (1 * 2 ^ bit_and v 63 % 2 ^ 64))))
    (sym (take_more vs i 0 c.loop-value-2-test.true))
    (one_occurs (take i vs) c.loop-value-2.found v (1 * 2 ^ bit_and v 63 % 2 ^ 64) (omega (arith, f)) bit c.loop-value-2.invariant)

pub returns : goal.returns
returns c = subst (λ us. AreOccurring us c.loop-value-2.found)
    (take_all c.loop-value-2.value-index c.args.values.now c.loop-value-2-test.false) c.loop-value-2.invariant
