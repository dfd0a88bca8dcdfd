-- How many variables a mask has.
--     ones-members      the set bits of a mask are as many as its members
use Rattle.std.proofs.Common.{◌≡◌, ℕ, zero, suc, ◌+◌, ◌/◌, ◌^◌, ◌<◌, length, sym, ap, ◌∙◌, arith, eqb, count_ones}
use Rattle.std.specs.Int.{bit_at}
use Rattle.std.specs.List.{filter, range_with_len}
use Rattle.std.proofs.Math.Nat.{div-div-eq-div-mul, div-one}
use lib.Count.{ones, ones_step}
use Rattle.definitions.specs.Orders.{members}

next_power : (a m : ℕ) → m / 2 ^ (a + 1) ≡ m / 2 ^ a / 2
next_power a m = ap (λ d. m / d) (let s : 2 ^ (a + 1) ≡ 2 ^ suc a = ap (λ k. 2 ^ k) (omega arith) in omega arith)
    ∙ sym (div-div-eq-div-mul m (2 ^ a) 2)

-- the set bits from bit a on
ones_from : (k a m : ℕ) → m / 2 ^ a < 2 ^ k → length (filter (λ x. eqb (bit_at m x) 1) (range_with_len a k)) ≡ count_ones (m / 2 ^ a)
unfolding ones
ones_from zero a m h = ap count_ones (let e : 0 ≡ m / 2 ^ a = omega arith in e)
ones_from (suc k) a m h =
    let e = next_power a m in
    grind (arith, ones_step, ones_from k (a + 1) m (omega arith))

pub ones-members : (n mask : ℕ) → mask < 2 ^ n → count_ones mask ≡ length (members n mask)
unfolding members
ones-members n mask h = ap count_ones (sym (div-one mask)) ∙ sym (ones_from n 0 mask (omega arith))
