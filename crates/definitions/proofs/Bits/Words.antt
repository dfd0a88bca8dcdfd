-- Truth tables packed in words: bits of words, and the dependence that they show.
--     tested_below      what a test of the first n numbers shows of each
--     shifted_bit      a shifted word's bits
--     some_difference, no_difference      what a word that is masked and compared with itself shifted shows
use Rattle.std.proofs.Common.{◌≡◌, ℕ, zero, suc, ◌+◌, ◌-◌, ◌*◌, ◌/◌, ◌%◌, ◌^◌, ◌<◌, true, false, not, refl, sym, ap, ◌∙◌, arith, subst, eqb, eqb-true, min, zero-add, bit_and, bit_xor}
use Rattle.std.specs.Int.{bit_at, w64, trailing_zeros}
use Rattle.std.specs.List.{list_all, range_with_len}
use Rattle.std.proofs.lemmas.Bool.{not-false, false≢true}
use Rattle.std.proofs.lemmas.List.Sums.{AllPass-from_list_all}
use Rattle.std.proofs.lemmas.List.FromFn.{get_or-range_with_len, length-range_with_len}
use Rattle.std.proofs.lemmas.Nat.Bits.{bit_at-trailing_zeros, bit_at_and, bit_at_xor, bit_at-lt, bit_at-zero}
use Rattle.std.proofs.lemmas.Nat.{shr-shr}
use Rattle.definitions.proofs.Bits.PointNumbers.{room_above}

-- what a test of the first n numbers shows of each
pub tested_below : (n : ℕ) (f g : ℕ → ℕ) → list_all (λ b. eqb (f b) (g b)) (range_with_len 0 n) ≡ true → (b : ℕ) → b < n → f b ≡ g b
tested_below n f g e b h =
    let r = AllPass-from_list_all (λ k. eqb (f k) (g k)) (range_with_len 0 n) e b 0 (omega (arith, length-range_with_len 0 n)) in
    eqb-true _ _ (subst (λ k. eqb (f k) (g k) ≡ true) (get_or-range_with_len 0 n b 0 h ∙ zero-add b) r)

pub shifted_bit : (word s b : ℕ) → bit_at (word / 2 ^ s) b ≡ bit_at word (b + s)
shifted_bit word s b = ap (λ z. z % 2) (shr-shr word s b) ∙ ap (bit_at word) (omega arith)

module _ (word x lower : ℕ) (small : x < 6) (low : (b : ℕ) → b < 64 → bit_at lower b ≡ 1 - bit_at b x) where
  abbrev pub masked : ℕ
  masked = bit_and (bit_xor (word / 2 ^ (2 ^ x)) word) lower

  masked_bit : (b : ℕ) → bit_at masked b ≡ min ((bit_at word (b + 2 ^ x) + bit_at word b) % 2) (bit_at lower b)
  masked_bit b = search (bit_at_and, bit_at_xor, shifted_bit)

  both_from_min : (a b : ℕ) → a < 2 → b < 2 → min a b ≡ suc zero → (a ≡ suc zero) × (b ≡ suc zero)
  both_from_min a b h k e = (omega arith, omega arith)

  pub some_difference : masked < 2 ^ 64 → (masked ≡ 0 → ⊥) → (b : ℕ) × (b + 2 ^ x < 64) × (bit_at b x ≡ 0) × (bit_at word b ≡ bit_at word (b + 2 ^ x) → ⊥)
  some_difference fits ne =
      let r = bit_at-trailing_zeros w64 masked (omega arith) fits in
      let b : ℕ = trailing_zeros w64 masked in
      let lt = bit_at-lt lower b in
      let parts = both_from_min ((bit_at word (b + 2 ^ x) + bit_at word b) % 2) (bit_at lower b) (omega arith) lt (sym (masked_bit b) ∙ r.1) in
      let l = low b r.0 in
      let off : bit_at b x ≡ zero = omega arith in
      (b, room_above 6 b x r.0 small off, off, λ e. absurd (omega arith))

  pub no_difference : masked ≡ 0 → (b : ℕ) → b + 2 ^ x < 64 → bit_at b x ≡ 0 → bit_at word b ≡ bit_at word (b + 2 ^ x)
  no_difference e b h off =
      omega (arith, sym (masked_bit b) ∙ ap (λ z. bit_at z b) e ∙ bit_at-zero b, low b (omega arith))

-- a step of 2 ^ x places, as a word's shift counts it
pub step_is : (x : ℕ) → x < 6 → (1 * 2 ^ x % 4294967296 ≡ 2 ^ x) × (2 ^ x < 64)
step_is zero h = (refl, omega arith)
step_is (suc zero) h = (refl, omega arith)
step_is (suc (suc zero)) h = (refl, omega arith)
step_is (suc (suc (suc zero))) h = (refl, omega arith)
step_is (suc (suc (suc (suc zero)))) h = (refl, omega arith)
step_is (suc (suc (suc (suc (suc zero))))) h = (refl, omega arith)
step_is (suc (suc (suc (suc (suc (suc x)))))) h = absurd (omega arith)

-- the same where the step is written as the program writes it, and the masked word is compared with 0
module _ (word x lower : ℕ) (small : x < 6) (low : (b : ℕ) → b < 64 → bit_at lower b ≡ 1 - bit_at b x) where
  abbrev pub shown : ℕ → ℕ
  shown step = bit_and (bit_xor (word / 2 ^ step) word) lower

  pub found_difference : shown (1 * 2 ^ x % 4294967296) < 2 ^ 64 → not (eqb (shown (1 * 2 ^ x % 4294967296)) 0) ≡ true →
      (b : ℕ) × (b + 2 ^ x < 64) × (bit_at b x ≡ 0) × (bit_at word b ≡ bit_at word (b + 2 ^ x) → ⊥)
  found_difference fits h =
      let e = ap shown (step_is x small).0 in
      some_difference word x lower small low (subst (λ (z : ℕ). z < 2 ^ 64) e fits) (λ z. false≢true (sym (ap (λ y. not (eqb y 0)) (e ∙ z)) ∙ h))

  pub found_none : not (eqb (shown (1 * 2 ^ x % 4294967296)) 0) ≡ false → (b : ℕ) → b + 2 ^ x < 64 → bit_at b x ≡ 0 → bit_at word b ≡ bit_at word (b + 2 ^ x)
  found_none h = no_difference word x lower small low (sym (ap shown (step_is x small).0) ∙ eqb-true _ _ (not-false _ h))
