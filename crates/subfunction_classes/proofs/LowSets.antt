-- Sets by their variables below a bound: the lowest bits of a mask.
--     low_more, low_same      the part of a mask below one variable more
--     low_new, low_all      it lacks the variable; below all variables it is the mask
--     bit_unset, unset_bit      a bit of a mask, and its member
use Rattle.std.proofs.Common.{◌≡◌, ℕ, ◌+◌, ◌*◌, ◌/◌, ◌%◌, ◌^◌, ◌<◌, false, ap, ◌∙◌, arith, bit_and, bit_or}
use Rattle.std.specs.Int.{bit_at}
use Rattle.std.proofs.Math.Nat.{mod-lt, mod-eq_of_lt}
use Rattle.std.proofs.lemmas.Nat.{pow_pos, or_disjoint, mod-pow-add}
use Rattle.std.proofs.lemmas.Nat.Bits.{shr_and_one, bit_at_above, and_pow}
use Rattle.definitions.specs.Orders.{has, members}
use Rattle.definitions.proofs.Bits.Masks.{has_members}
use Rattle.definitions.proofs.Precedence.MaskLaws.{member_from}

low_bits : (mask y : ℕ) → mask % 2 ^ (y + 1) ≡ (mask / 2 ^ y % 2) * 2 ^ y + mask % 2 ^ y
low_bits mask y = ap (λ k. mask % 2 ^ k) (let s : y + 1 ≡ 1 + y = omega arith in s) ∙ mod-pow-add mask 1 y

low_free : (mask y : ℕ) → bit_at (mask % 2 ^ y) y ≡ 0
low_free mask y = bit_at_above (mask % 2 ^ y) y y (mod-lt mask (pow_pos y)) (omega arith)

-- one variable more
pub low_more : (mask y : ℕ) → bit_and (mask / 2 ^ y) 1 ≡ 1 → bit_or (mask % 2 ^ y) (2 ^ y) ≡ mask % 2 ^ (y + 1)
low_more mask y e = grind (arith, low_bits, shr_and_one, or_disjoint, and_pow, low_free)

pub low_same : (mask y : ℕ) → (bit_and (mask / 2 ^ y) 1 ≡ 1 → ⊥) → mask % 2 ^ y ≡ mask % 2 ^ (y + 1)
low_same mask y e = grind (arith, shr_and_one, low_bits)

-- the variable is not there yet
pub low_new : (n mask y : ℕ) → has (members n (mask % 2 ^ y)) y ≡ false
low_new n mask y = grind (arith, has_members, low_free)

pub bit_unset : (n mask y : ℕ) → bit_and (mask / 2 ^ y) 1 ≡ 0 → has (members n mask) y ≡ false
bit_unset n mask y e = grind (arith, shr_and_one, has_members)

pub unset_bit : (n mask y : ℕ) → y < n → has (members n mask) y ≡ false → bit_and (mask / 2 ^ y) 1 ≡ 0
unset_bit n mask y lt e = grind (arith, member_from, shr_and_one)

pub low_all : (n mask : ℕ) → mask < 2 ^ n → mask % 2 ^ n ≡ mask
low_all n mask h = mod-eq_of_lt h
