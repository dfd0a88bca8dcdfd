-- The essential variables outside a set, as set bits.
--     outside_count      how many there are
use Rattle.std.proofs.Common.{◌≡◌, ℕ, ◌-◌, ◌^◌, ◌<◌, min, not, ◌&&◌, inl, inr, List, length, sym, ap, ◌∙◌, arith, eqb, bit_and, count_ones, w16}
use Rattle.std.specs.Int.{bit_at}
use Rattle.std.specs.List.{filter}
use Rattle.std.proofs.lemmas.Bool.{cases_lt}
use Rattle.std.proofs.lemmas.Nat.Bits.{bit_at_above, bit_at_and, bit_at_not, bit_at-lt}
use Rattle.std.proofs.lemmas.Nat.{and_le_l}
use Rattle.definitions.specs.Functions.{Function}
use Rattle.definitions.specs.Orders.{has, members, variables}
use Rattle.definitions.specs.Widths.{essential, essential_mask, essentials_outside}
use Rattle.definitions.proofs.Lists.Orders.{has_variables, has_filter}
use Rattle.definitions.proofs.Widths.Essential.{distinct_essential}
use Rattle.definitions.proofs.Bits.Masks.{has_members, mask_of_small}
use Rattle.definitions.proofs.Bits.Ones.{ones-members}
use Rattle.definitions.proofs.Widths.Count.{essential_members}
use Rattle.definitions.proofs.Lists.Ranges.{filter_same, filter_twice}

pub bit_has : (n mask y : ℕ) → y < n → has (members n mask) y ≡ eqb (bit_at mask y) 1
bit_has n mask y lt = has_members n mask y ∙ ap (λ b. b && eqb (bit_at mask y) 1) ((has_variables n y).1 lt)

both_bits : (a b : ℕ) → a < 2 → b < 2 → eqb (min a (1 - b)) 1 ≡ (eqb a 1 && not (eqb b 1))
both_bits a b h k = grind arith

pub essential_small : (n : ℕ) (F : List Function) → essential_mask n F < 2 ^ n
unfolding essential_mask essential
essential_small n F = grind (arith, mask_of_small, distinct_essential, has_variables, has_filter)

outside_bit : (n E mask i : ℕ) → E < 65536 → mask < 65536 → i < n →
    eqb (bit_at (bit_and E (65535 - mask)) i) 1 ≡ (eqb (bit_at E i) 1 && not (has (members n mask) i))
outside_bit n E mask i e small lt =
    ap (λ b. eqb b 1) (bit_at_and E (65535 - mask) i)
    ∙ elim (cases_lt i 16) [
      | inl low ↦ ap (λ b. eqb (min (bit_at E i) b) 1) (bit_at_not w16 mask i small low)
          ∙ both_bits (bit_at E i) (bit_at mask i) (bit_at-lt E i) (bit_at-lt mask i)
      | inr high ↦
          let z : bit_at E i ≡ 0 = bit_at_above E 16 i e high in
          grind arith
    ]
    ∙ ap (λ b. eqb (bit_at E i) 1 && not b) (sym (bit_has n mask i lt))

outside_members : (n : ℕ) (F : List Function) (E mask : ℕ) → E < 65536 → mask < 65536 → E ≡ essential_mask n F →
    members n (bit_and E (65535 - mask)) ≡ filter (λ x. not (has (members n mask) x)) (essential n F)
unfolding members
outside_members n F E mask e small is =
    filter_same (λ x. eqb (bit_at (bit_and E (65535 - mask)) x) 1) (λ x. eqb (bit_at E x) 1 && not (has (members n mask) x)) (variables n)
    (λ i h. outside_bit n E mask i e small ((has_variables n i).0 h))
    ∙ sym (filter_twice (λ x. eqb (bit_at E x) 1) (λ x. not (has (members n mask) x)) (variables n))
    ∙ ap (filter (λ x. not (has (members n mask) x))) (ap (members n) is ∙ essential_members n F)

pub outside_count : (n : ℕ) (F : List Function) (E mask : ℕ) → E < 65536 → mask < 65536 → E ≡ essential_mask n F →
    count_ones (bit_and E (65535 - mask)) ≡ essentials_outside n F (members n mask)
unfolding essentials_outside
outside_count n F E mask e small is =
    ones-members n (bit_and E (65535 - mask)) (omega (arith, and_le_l E (65535 - mask), essential_small n F))
    ∙ ap length (outside_members n F E mask e small is)
