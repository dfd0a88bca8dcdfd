-- Masks and the lists of their variables.
--     has_members, distinct_members, members_without, members_full      the members of a mask, of one without a member, and of all variables
--     bit-mask_of, members_mask_of, full_mask      the mask of a list
use Rattle.std.proofs.Common.{◌≡◌, lit<, ◌≢◌, ℕ, ◌+◌, ◌-◌, ◌*◌, ◌/◌, ◌%◌, ◌^◌, ◌<◌, ◌≤◌, max, true, false, not, cond, ◌&&◌, inl, inr, List, [], ◌∷◌, sym, ap, ◌∙◌, arith, nat_eq, eqb, eqb-true, eq-eqb, ne_eqb, pow_pos, pow_mono, zero-mul}
use Rattle.std.specs.Int.{bit_at}
use Rattle.std.specs.List.{IsDistinct}
use Rattle.std.proofs.Math.Nat.{pow-le-pow_right, div-eq_of_lt, div-eq-sub-div, div-add-mod, mod-lt, mul_comm}
use Rattle.std.proofs.lemmas.Bool.{cases_eq, cases_lt, or_cases, and_parts, false_from_ne_true}
use Rattle.std.proofs.lemmas.Nat.Bits.{ones_shr, bit_at-zero, bit_at_or, and_pow, bit_at-pow_same, bit_at-pow_other, bit_at_ones, bit_at_above, bit_at_cat_low, bit_at-lt, same_from_bits}
use Rattle.std.proofs.lemmas.Nat.{or_disjoint}
use Rattle.definitions.specs.Orders.{has, IsOrder, variables, members, mask_of, without}
use Rattle.definitions.proofs.Lists.Orders.{absent_from_apart, has_filter, has_variables}
use Rattle.definitions.proofs.Widths.Recurrence.{apart_from_absent, has_without, distinct_filter, distinct_variables}
use Rattle.std.proofs.Math.Bool.{and-false, and-true}

-- ---- the members of a mask

pub has_members : (n mask y : ℕ) → has (members n mask) y ≡ (has (variables n) y && eqb (bit_at mask y) 1)
unfolding members
has_members n mask y = has_filter (λ x. eqb (bit_at mask x) 1) (variables n) y

pub distinct_members : (n mask : ℕ) → IsDistinct nat_eq (members n mask)
unfolding members
distinct_members n mask = distinct_filter (λ x. eqb (bit_at mask x) 1) (variables n) (distinct_variables n)

bit_without : (mask x : ℕ) → bit_at mask x ≡ 1 → (bit_at (mask - 2 ^ x) x ≡ 0) × ((y : ℕ) → y ≢ x → bit_at (mask - 2 ^ x) y ≡ bit_at mask y)
bit_without mask x e = (gone, others)
  where
    enough : 2 ^ x ≤ mask
    enough = elim (cases_lt mask (2 ^ x)) [
      | inl lt ↦ absurd (let q : mask / 2 ^ x ≡ 0 = div-eq_of_lt lt in omega arith)
      | inr le ↦ le
    ]

    gone : bit_at (mask - 2 ^ x) x ≡ 0
    gone = omega (arith, div-eq-sub-div (pow_pos x) enough)

    others : (y : ℕ) → y ≢ x → bit_at (mask - 2 ^ x) y ≡ bit_at mask y
    others y ne =
        let together = or_disjoint (mask - 2 ^ x) (2 ^ x) (and_pow (mask - 2 ^ x) x ∙ ap (λ b. b * 2 ^ x) gone ∙ zero-mul (2 ^ x)) in
        omega (
          arith,
          ap (λ k. bit_at k y) restored,
          sym (ap (λ k. bit_at k y) together) ∙ bit_at_or (mask - 2 ^ x) (2 ^ x) y,
          bit_at-pow_other x y ne,
        )
      where
        restored : mask - 2 ^ x + 2 ^ x ≡ mask
        restored = omega (arith, enough)

is_one_lem : (b : ℕ) → eqb b 1 ≡ true → b ≡ 1
is_one_lem b e = eqb-true b 1 e

pub members_without : (n mask x : ℕ) → has (members n mask) x ≡ true → (y : ℕ) → has (members n (mask - 2 ^ x)) y ≡ has (without x (members n mask)) y
members_without n mask x h y =
    has_members n (mask - 2 ^ x) y ∙ middle ∙ sym (has_without x (members n mask) y ∙ ap (λ b. b && not (nat_eq x y)) (has_members n mask y))
  where
    set_bit : bit_at mask x ≡ 1
    set_bit = is_one_lem (bit_at mask x) (and_parts (has (variables n) x) (eqb (bit_at mask x) 1) (sym (has_members n mask x) ∙ h)).1

    bits : (bit_at (mask - 2 ^ x) x ≡ 0) × ((z : ℕ) → z ≢ x → bit_at (mask - 2 ^ x) z ≡ bit_at mask z)
    bits = bit_without mask x set_bit

    middle : (has (variables n) y && eqb (bit_at (mask - 2 ^ x) y) 1) ≡ ((has (variables n) y && eqb (bit_at mask y) 1) && not (nat_eq x y))
    middle =
        elim (cases_eq y x) [
          | inl e ↦
              ap (λ b. has (variables n) y && eqb b 1) (ap (bit_at (mask - 2 ^ x)) e ∙ bits.0) ∙ and-false (has (variables n) y)
              ∙ sym (ap (λ b. (has (variables n) y && eqb (bit_at mask y) 1) && not b) (eq-eqb x y (sym e))
              ∙ and-false (has (variables n) y && eqb (bit_at mask y) 1))
          | inr ne ↦
              ap (λ b. has (variables n) y && eqb b 1) (bits.1 y ne)
              ∙ sym (ap (λ b. (has (variables n) y && eqb (bit_at mask y) 1) && not b) (ne_eqb x y (λ e. ne (sym e)))
              ∙ and-true (has (variables n) y && eqb (bit_at mask y) 1))
        ]

-- the mask of all variables
pub members_full : (n y : ℕ) → has (members n (2 ^ n - 1)) y ≡ has (variables n) y
members_full n y = grind (arith, has_members, bit_at_ones, has_variables)

-- ---- the mask of a list

pub bit-mask_of : (xs : List ℕ) → IsDistinct nat_eq xs → (y : ℕ) → bit_at (mask_of xs) y ≡ cond (has xs y) 1 0
unfolding mask_of IsDistinct
bit-mask_of [] d y = bit_at-zero y
bit-mask_of (x ∷ xs) d y =
    let free : bit_at (mask_of xs) x ≡ 0 = bit-mask_of xs d.1 x ∙ ap (λ b. cond b 1 0) (absent_from_apart x xs d.0) in
    let added : bit_at (mask_of xs + 2 ^ x) y ≡ max (bit_at (mask_of xs) y) (bit_at (2 ^ x) y) =
    ap (λ m. bit_at m y) (sym (or_disjoint (mask_of xs) (2 ^ x) (and_pow (mask_of xs) x ∙ ap (λ b. b * 2 ^ x) free ∙ zero-mul (2 ^ x))))
    ∙ bit_at_or (mask_of xs) (2 ^ x) y in
    grind (arith, bit_at-pow_same, bit_at-pow_other, bit-mask_of xs d.1 y)

pub members_mask_of : (n : ℕ) (xs : List ℕ) → IsDistinct nat_eq xs → ((y : ℕ) → has xs y ≡ true → y < n) → (y : ℕ) → has (members n (mask_of xs)) y ≡ has xs y
unfolding members
members_mask_of n xs d small y = grind (arith, has_filter, bit-mask_of, has_variables)

-- all variables together have the full mask
pub full_mask : (n : ℕ) (order : List ℕ) → IsOrder n order → mask_of order ≡ 2 ^ n - 1
full_mask n order o = same_from_bits (mask_of order) (2 ^ n - 1) (λ y. elim (cases_lt y n) [
  | inl lt ↦ bit-mask_of order o.once y ∙ ap (λ b. cond b 1 0) ((o.all y).1 lt) ∙ sym (bit_at_ones n y lt)
  | inr le ↦ bit-mask_of order o.once y ∙ ap (λ b. cond b 1 0) (false_from_ne_true _ (λ h. let s = (o.all y).0 h in omega arith)) ∙ sym (above y le)
])
  where
    above : (y : ℕ) → n ≤ y → bit_at (2 ^ n - 1) y ≡ 0
    above y le =
        let p : 2 ^ n ≤ 2 ^ y = pow_mono le in
        grind (arith, div-eq_of_lt)

-- bits from n on are 0, so the mask is below 2 ^ n
pub mask_of_small : (n : ℕ) (xs : List ℕ) → IsDistinct nat_eq xs → ((y : ℕ) → has xs y ≡ true → y < n) → mask_of xs < 2 ^ n
mask_of_small n xs d small =
    let m = mask_of xs in
    let r : m % 2 ^ n < 2 ^ n = mod-lt m (pow_pos n) in
    let whole : m / 2 ^ n * 2 ^ n + m % 2 ^ n ≡ m = ap (λ q. q + m % 2 ^ n) (mul_comm (m / 2 ^ n) (2 ^ n)) ∙ div-add-mod m (2 ^ n) in
    let same : m ≡ m % 2 ^ n = same_from_bits m (m % 2 ^ n) (λ y. elim (cases_lt y n) [
      | inl lt ↦ ap (λ k. bit_at k y) (sym whole) ∙ bit_at_cat_low (m / 2 ^ n) n (m % 2 ^ n) y lt
      | inr le ↦ grind (arith, bit-mask_of, bit_at_above)
    ]) in
    omega arith

pub mask_of_members : (n mask : ℕ) → mask < 2 ^ n → mask_of (members n mask) ≡ mask
mask_of_members n mask lt =
    same_from_bits (mask_of (members n mask)) mask
    (λ y. bit-mask_of (members n mask) (distinct_members n mask) y ∙ ap (λ b. cond b 1 0) (has_members n mask y) ∙ elim (cases_lt y n) [
      | inl low ↦ ap (λ b. cond (b && eqb (bit_at mask y) 1) 1 0) ((has_variables n y).1 low) ∙ one (bit_at mask y) (bit_at-lt mask y)
      | inr high ↦ grind (arith, bit_at_above)
    ])
  where
    one : (b : ℕ) → b < 2 → cond (eqb b 1) 1 0 ≡ b
    one b s = elim (cases_eq b 1) [
      | inl e ↦ ap (λ c. cond c 1 0) (eq-eqb b 1 e) ∙ sym e
      | inr ne ↦ ap (λ c. cond c 1 0) (ne_eqb b 1 ne) ∙ (let z : 0 ≡ b = omega arith in z)
    ]

pub members_small : (n mask y : ℕ) → has (members n mask) y ≡ true → y < n
members_small n mask y h = (has_variables n y).0 (and_parts (has (variables n) y) (eqb (bit_at mask y) 1) (sym (has_members n mask y) ∙ h)).0

-- a mask with one more variable
pub mask_with : (n mask x : ℕ) → mask < 2 ^ n → x < n → has (members n mask) x ≡ false →
    (mask + 2 ^ x < 2 ^ n) × ((y : ℕ) → has (members n (mask + 2 ^ x)) y ≡ has (x ∷ members n mask) y)
unfolding mask_of IsDistinct
mask_with n mask x lt small out =
    let d : IsDistinct nat_eq (x ∷ members n mask) = (apart_from_absent x (members n mask) out, distinct_members n mask) in
    let low : (y : ℕ) → has (x ∷ members n mask) y ≡ true → y < n =
    λ y h. elim (or_cases (nat_eq y x) (has (members n mask) y) h)
    [ inl e ↦ omega (arith, eqb-true y x e) | inr r ↦ members_small n mask y r ] in
    let same : mask_of (members n mask) + 2 ^ x ≡ mask + 2 ^ x = ap (λ m. m + 2 ^ x) (mask_of_members n mask lt) in (
      omega (arith, mask_of_small n (x ∷ members n mask) d low),
      λ y. ap (λ m. has (members n m) y) (sym same) ∙ members_mask_of n (x ∷ members n mask) d low y,
    )

-- the masks of at most 16 variables
pub power_small : (n : ℕ) → n ≤ 16 → 2 ^ n ≤ 65536
power_small n small = pow-le-pow_right {n = 2} (lit< tt) {i = n} {j = 16} small

pub all_ones : (n : ℕ) → n ≤ 16 → 65535 / 2 ^ (16 - n) ≡ 2 ^ n - 1
all_ones n h = ones_shr 16 (16 - n) (omega arith) ∙ ap (λ (k : ℕ). 2 ^ k - 1) (omega arith)
