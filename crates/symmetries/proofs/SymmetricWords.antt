-- Truth tables that are symmetric in two variables, by their words.
--     same_where      two words are equal at each place of a mask outside which they may differ
--     places_with      the mask of the places that have one variable and lack another one
--     inside_value, across_value, between_value      values at two points that differ in which of two variables is 1
use Rattle.std.proofs.Common.{◌≡◌, ℕ, ◌+◌, ◌-◌, ◌*◌, ◌/◌, ◌%◌, ◌^◌, ◌<◌, ◌≤◌, List, length, slice_index, sym, ap, ◌∙◌, arith, false, not, min, bit_and, bit_xor, pow_pos, pow_mono, eqb, eqb-true}
use Rattle.std.specs.Int.{bit_at}
use Rattle.std.proofs.Math.Nat.{div-eq-sub-div}
use Rattle.std.proofs.lemmas.Bool.{not-false}
use Rattle.std.proofs.lemmas.Nat.{pow-add}
use Rattle.std.proofs.lemmas.Nat.Bits.{bit_at_and, bit_at_xor, bit_at-lt, bit_at-zero, bit_at_cat_high, bit_at_cat_low}
use Rattle.definitions.specs.Problems.{packed_bit, words_per_table}
use Rattle.definitions.proofs.Bits.PointNumbers.{room_above}
use Rattle.definitions.proofs.Bits.Tables.{value_at_word, whole_words}
use Rattle.definitions.proofs.Bits.Words.{shifted_bit}
use Rattle.definitions.proofs.Precedence.Greedy.{pow_le_bit}

-- two words are equal at each place of a mask outside which they may differ
pub same_where : (u v mask k : ℕ) → bit_and (bit_xor u v) mask ≡ 0 → bit_at mask k ≡ 1 → bit_at u k ≡ bit_at v k
same_where u v mask k none there =
    let m = sym (bit_at_and (bit_xor u v) mask k ∙ ap (λ z. min z (bit_at mask k)) (bit_at_xor u v k)) ∙ ap (λ z. bit_at z k) none ∙ bit_at-zero k in
    let l = bit_at-lt u k in
    let r = bit_at-lt v k in
    omega (arith, m)

-- the mask of the places that have a and lack b
pub places_with : (a b lower_a lower_b k : ℕ) → bit_at lower_a k ≡ 1 - bit_at k a → bit_at lower_b k ≡ 1 - bit_at k b → bit_at k a ≡ 1 → bit_at k b ≡ 0 →
    bit_at (bit_xor lower_b (bit_and lower_b lower_a)) k ≡ 1
places_with a b lower_a lower_b k first second one zero =
    bit_at_xor lower_b (bit_and lower_b lower_a) k ∙ ap (λ z. (bit_at lower_b k + z) % 2) (bit_at_and lower_b lower_a k) ∙ omega arith

-- a place with a, without it
pub place_without : (k a : ℕ) → bit_at k a ≡ 1 → (2 ^ a ≤ k) × (bit_at (k - 2 ^ a) a ≡ 0)
place_without k a one = grind (arith, pow_le_bit, div-eq-sub-div, pow_pos)

-- a masked difference that is 0 shows equal bits, and a shifted word has those further up
pub same_shifted : (word v mask s t k : ℕ) → s ≡ t → not (eqb (bit_and (bit_xor (word / 2 ^ s) v) mask) 0) ≡ false → bit_at mask k ≡ 1 →
    bit_at word (k + t) ≡ bit_at v k
same_shifted word v mask s t k e none there =
    sym (shifted_bit word t k) ∙ ap (λ z. bit_at (word / 2 ^ z) k) (sym e)
    ∙ same_where (word / 2 ^ s) v mask k (eqb-true _ _ (not-false _ none)) there

-- the place of a point's word, and of its bit there
module _ (p : ℕ) where
  pub cut : 64 * (p / 64) + p % 64 ≡ p
  cut = omega arith

  pub low_bit : (x : ℕ) → x < 6 → bit_at p x ≡ bit_at (p % 64) x
  low_bit x low =
      let e : p ≡ p / 64 * 64 + p % 64 = omega arith in
      ap (λ z. bit_at z x) e ∙ bit_at_cat_low (p / 64) 6 (p % 64) x low

  pub high_bit : (x : ℕ) → 6 ≤ x → bit_at p x ≡ bit_at (p / 64) (x - 6)
  high_bit x high =
      let e : p ≡ p / 64 * 64 + p % 64 = omega arith in
      ap (λ z. bit_at z x) e ∙ bit_at_cat_high (p / 64) 6 (p % 64) x (omega arith) high

-- a step of 64 points or more is one of whole words
pub whole_step : (x : ℕ) → 6 ≤ x → 2 ^ x ≡ 64 * 2 ^ (x - 6)
whole_step x high =
    let e : 6 + (x - 6) ≡ x = omega arith in
    sym (ap (λ z. 2 ^ z) e) ∙ pow-add 2 6 (x - 6)

-- the word of a point is there
pub word_there : (n : ℕ) (words : List ℕ) (p : ℕ) → length words ≡ words_per_table n → p < 2 ^ n → p / 64 < length words
word_there n words p long small = grind (arith, whole_words, pow_mono)

-- values at a point with a and without b, and at the one with b in place of a
module _ (n : ℕ) (words : List ℕ) (a b p : ℕ) (long : length words ≡ words_per_table n) (first : a < b) (small : p < 2 ^ n)
    (one : bit_at p a ≡ 1) (zero : bit_at p b ≡ 0) where
  at : (i k : ℕ) → k < 64 → (q : ℕ) → 64 * i + k ≡ q → packed_bit words q ≡ eqb (bit_at (slice_index words i) k) 1
  at i k lt q e = sym (ap (packed_bit words) e) ∙ value_at_word words i k lt

  pub inside_value : b < 6 →
      ((i k : ℕ) → i < length words → k < 64 → bit_at k a ≡ 1 → bit_at k b ≡ 0 →
      bit_at (slice_index words i) k ≡ bit_at (slice_index words i) ((k - 2 ^ a) + 2 ^ b)) →
      packed_bit words p ≡ packed_bit words ((p - 2 ^ a) + 2 ^ b)
  inside_value low h =
      let i = p / 64 in
      let k = p % 64 in
      let c = cut p in
      let fits : k < 64 = omega arith in
      let on = sym (low_bit p a (omega arith)) ∙ one in
      let off = sym (low_bit p b low) ∙ zero in
      let le = (place_without k a on).0 in
      let room = room_above 6 k b fits low off in
      at i k fits p c ∙ ap (λ z. eqb z 1) (h i k (word_there n words p long small) fits on off)
      ∙ sym (at i ((k - 2 ^ a) + 2 ^ b) (omega arith) ((p - 2 ^ a) + 2 ^ b) (omega arith))

  pub across_value : a < 6 → 6 ≤ b →
      ((i k : ℕ) → i < length words → bit_at i (b - 6) ≡ 0 → k < 64 → bit_at k a ≡ 1 →
      bit_at (slice_index words i) k ≡ bit_at (slice_index words (i + 2 ^ (b - 6))) (k - 2 ^ a)) →
      packed_bit words p ≡ packed_bit words ((p - 2 ^ a) + 2 ^ b)
  across_value low high h = grind (arith, cut, low_bit, high_bit, place_without, whole_step, at, word_there)

  pub between_value : 6 ≤ a →
      ((i : ℕ) → i < length words → bit_at i (a - 6) ≡ 1 → bit_at i (b - 6) ≡ 0 → slice_index words i ≡ slice_index words ((i - 2 ^ (a - 6)) + 2 ^ (b - 6))) →
      packed_bit words p ≡ packed_bit words ((p - 2 ^ a) + 2 ^ b)
  between_value high h = grind (arith, cut, high_bit, place_without, whole_step, at, word_there)
