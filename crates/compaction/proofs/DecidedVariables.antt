-- Sets by the variables that are decided, both as masks: a set agrees with another one in them.
--     split_decided      agreeing in the decided variables is agreeing in one more with the set, or with the set and that variable
--     join_without, join_with      and back
--     not_both      but not with both
--     within_more, lacks_new      the set with that variable lies within; it lacked it
--     all_decided      a set is itself in all variables
--     decided_more, free_with      one variable more is decided
--     undecided_high      an undecided variable is high
--     within_ones      a set of low variables lies within them
--     free_ones, few_free      how many variables are undecided at first, and at most
use Rattle.std.proofs.Common.{◌≡◌, ℕ, zero, suc, ◌+◌, ◌-◌, ◌*◌, ◌^◌, ◌<◌, ◌≤◌, min, max, false, inl, inr, ◌⊎◌, sym, ap, ◌∙◌, arith, bit_and, bit_or, zero-mul, pow_mono}
use Rattle.std.specs.Int.{bit_at}
use Rattle.std.proofs.Math.Nat.{mod-eq_of_lt}
use Rattle.std.proofs.lemmas.Bool.{cases_eq, cases_lt}
use Rattle.std.proofs.lemmas.Nat.{and_mask, and_assoc, and_comm, or_comm, and_or_self, and_or_apart}
use Rattle.std.proofs.lemmas.Nat.Bits.{bit_at_and, bit_at_or, bit_at-pow_same, bit_at-pow_other, bit_at-lt, bit_at_above, bit_at_ones, bit_at_ones_above, same_from_bits, and_pow, shr_and_one}
use Rattle.definitions.specs.Orders.{has, members}
use Rattle.subfunction_classes.specs.Table.{free_below}
use Rattle.subfunction_classes.proofs.LowSets.{bit_unset}
use Rattle.subfunction_classes.proofs.OneMoreVariable.{free_none, free_more, free_same, free_le}
use Rattle.compaction.proofs.HeldStrips.{free_less}

in_more : (mask d y i : ℕ) → bit_at (bit_and mask (bit_or d (2 ^ y))) i ≡ min (bit_at mask i) (max (bit_at d i) (bit_at (2 ^ y) i))
in_more mask d y i = bit_at_and mask (bit_or d (2 ^ y)) i ∙ ap (min (bit_at mask i)) (bit_at_or d (2 ^ y) i)

within_bit : (set d i : ℕ) → bit_and set d ≡ set → bit_at set i ≡ min (bit_at set i) (bit_at d i)
within_bit set d i w = ap (λ m. bit_at m i) (sym w) ∙ bit_at_and set d i

pub split_decided : (mask set d y : ℕ) → bit_and mask d ≡ set →
    (bit_and mask (bit_or d (2 ^ y)) ≡ set) ⊎ (bit_and mask (bit_or d (2 ^ y)) ≡ bit_or set (2 ^ y))
split_decided mask set d y e = elim (cases_eq (bit_at mask y) 1) [
  | inl one ↦ inr (same_from_bits (bit_and mask (bit_or d (2 ^ y))) (bit_or set (2 ^ y)) (λ i.
      in_more mask d y i ∙ elim (cases_eq i y) [
        | inl same ↦
            let p = ap (bit_at (2 ^ y)) same ∙ bit_at-pow_same y in
            let m = ap (bit_at mask) same ∙ one in
            let l = bit_at-lt d i in
            let s = bit_at-lt set i in
            let r = bit_at_or set (2 ^ y) i in
            omega arith
        | inr other ↦
            let p = bit_at-pow_other y i other in
            let s = ap (λ m. bit_at m i) (sym e) ∙ bit_at_and mask d i in
            let r = bit_at_or set (2 ^ y) i in
            omega arith
      ]))
  | inr none ↦ inl (same_from_bits (bit_and mask (bit_or d (2 ^ y))) set (λ i.
      in_more mask d y i ∙ elim (cases_eq i y) [
        | inl same ↦
            let b = bit_at-lt mask y in
            let m = ap (bit_at mask) same in
            let s = ap (λ m. bit_at m i) (sym e) ∙ bit_at_and mask d i in
            omega arith
        | inr other ↦
            let p = bit_at-pow_other y i other in
            let s = ap (λ m. bit_at m i) (sym e) ∙ bit_at_and mask d i in
            omega arith
      ]))
]

decided_before : (mask d y : ℕ) → bit_and (bit_and mask (bit_or d (2 ^ y))) d ≡ bit_and mask d
decided_before mask d y =
    and_assoc d mask (bit_or d (2 ^ y)) ∙ ap (bit_and mask) (ap (λ z. bit_and z d) (or_comm d (2 ^ y)) ∙ and_or_self d (2 ^ y))

pub join_without : (mask set d y : ℕ) → bit_and set d ≡ set → bit_and mask (bit_or d (2 ^ y)) ≡ set → bit_and mask d ≡ set
join_without mask set d y w e = sym (decided_before mask d y) ∙ ap (λ z. bit_and z d) e ∙ w

pub join_with : (mask set d y : ℕ) → bit_at d y ≡ 0 → bit_and set d ≡ set → bit_and mask (bit_or d (2 ^ y)) ≡ bit_or set (2 ^ y) →
    bit_and mask d ≡ set
join_with mask set d y new w e =
    sym (decided_before mask d y) ∙ ap (λ z. bit_and z d) e
    ∙ and_or_apart d set (2 ^ y) (and_comm (2 ^ y) d ∙ and_pow d y ∙ ap (λ b. b * 2 ^ y) new ∙ zero-mul (2 ^ y)) ∙ w

undecided_absent : (set d y : ℕ) → bit_at d y ≡ 0 → bit_and set d ≡ set → bit_at set y ≡ 0
undecided_absent set d y new w = let s = within_bit set d y w in omega arith

pub not_both : (set d y : ℕ) → bit_at d y ≡ 0 → bit_and set d ≡ set → set ≡ bit_or set (2 ^ y) → ⊥
not_both set d y new w e =
    let absent = undecided_absent set d y new w in
    let present = ap (λ m. bit_at m y) e ∙ bit_at_or set (2 ^ y) y in
    let p = bit_at-pow_same y in
    omega arith

pub within_more : (set d y : ℕ) → bit_and set d ≡ set → bit_and (bit_or set (2 ^ y)) (bit_or d (2 ^ y)) ≡ bit_or set (2 ^ y)
within_more set d y w =
    same_from_bits (bit_and (bit_or set (2 ^ y)) (bit_or d (2 ^ y))) (bit_or set (2 ^ y)) (λ i.
    in_more (bit_or set (2 ^ y)) d y i
    ∙ (let r = bit_at_or set (2 ^ y) i in let s = within_bit set d i w in omega arith))

pub within_same : (set d y : ℕ) → bit_and set d ≡ set → bit_and set (bit_or d (2 ^ y)) ≡ set
within_same set d y w =
    same_from_bits (bit_and set (bit_or d (2 ^ y))) set (λ i. in_more set d y i ∙ (let s = within_bit set d i w in omega arith))

pub lacks_new : (n set d y : ℕ) → bit_at d y ≡ 0 → bit_and set d ≡ set → has (members n set) y ≡ false
lacks_new n set d y new w = bit_unset n set y (shr_and_one set y ∙ undecided_absent set d y new w)

pub all_decided : (n mask d : ℕ) → mask < 2 ^ n → ((y : ℕ) → y < n → bit_at d y ≡ 1) → bit_and mask d ≡ mask
all_decided n mask d small all =
    same_from_bits (bit_and mask d) mask (λ i.
    bit_at_and mask d i ∙ elim (cases_lt i n) [
      | inl lt ↦ let a = all i lt in let l = bit_at-lt mask i in omega arith
      | inr le ↦ let z = bit_at_above mask n i small le in omega arith
    ])

pub free_ones : (k x : ℕ) → free_below (2 ^ k - 1) x ≡ x - k
free_ones k zero = free_none (2 ^ k - 1) ∙ omega arith
free_ones k (suc x) =
    ap (free_below (2 ^ k - 1)) (let s : suc x ≡ x + 1 = omega arith in s)
    ∙ elim (cases_lt x k) [
      | inl lt ↦
          free_same (2 ^ k - 1) x (λ z. let o = sym (shr_and_one (2 ^ k - 1) x) ∙ z in let b = bit_at_ones k x lt in let f : ⊥ = omega arith in f)
          ∙ (let r = free_ones k x in omega arith)
      | inr le ↦ free_more (2 ^ k - 1) x (shr_and_one (2 ^ k - 1) x ∙ bit_at_ones_above k x le) ∙ (let r = free_ones k x in omega arith)
    ]

-- one variable more is decided
pub decided_more : (d y z : ℕ) → bit_at d z ≡ 1 → bit_at (bit_or d (2 ^ y)) z ≡ 1
decided_more d y z e = bit_at_or d (2 ^ y) z ∙ (let l = bit_at-lt (2 ^ y) z in omega arith)

pub free_with : (n d y : ℕ) → y < n → bit_at d y ≡ 0 → free_below d n ≡ suc (free_below (bit_or d (2 ^ y)) n)
free_with n d y lt e = free_less d y n lt (λ q. (let f : ⊥ = omega arith in f))

pub few_free : (n d : ℕ) → n ≤ 16 → 2 ^ free_below d n ≤ 65536
few_free n d few = let l = free_le d n in pow_mono {j = 16} (omega arith)

-- where the low variables are decided the others are high
pub undecided_high : (low d y : ℕ) → bit_at d y ≡ 0 → ((z : ℕ) → z < low → bit_at d z ≡ 1) → low ≤ y
undecided_high low d y e decided = elim (cases_lt y low) [ inl lt ↦ absurd (let o = decided y lt in omega arith) | inr le ↦ le ]

-- a set of low variables lies within them
pub within_ones : (set k : ℕ) → set < 2 ^ k → bit_and set (2 ^ k - 1) ≡ set
within_ones set k small = and_mask set k ∙ mod-eq_of_lt small
