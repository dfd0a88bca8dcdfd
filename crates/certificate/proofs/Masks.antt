-- Words that are masks as a certificate has them.
use Rattle.std.proofs.Common.{◌≡◌, ℕ, ◌+◌, ◌-◌, ◌*◌, ◌/◌, ◌%◌, ◌^◌, ◌<◌, zero, suc, refl, sym, ◌∙◌, ap, true, false, nat_lt, List, [], ◌∷◌, length, get_or, arith}
use Rattle.certificate.specs.Spelling.{hex4}
use Rattle.certificate.specs.Faults.{is_mask, mask_of}
use Rattle.certificate.proofs.WordLines.{glyph, glyph_value}
use Rattle.certificate.proofs.LineTests.{same_self, mask_is}
use Rattle.std.proofs.lemmas.Bool.{false_from_ne_true}

-- four digits, highest first
abbrev pub of_digits : ℕ → ℕ → ℕ → ℕ → ℕ
of_digits a b c d = ((a * 16 + b) * 16 + c) * 16 + d

pub digits_mask : (a b c d : ℕ) → a < 16 → b < 16 → c < 16 → d < 16 → mask_of (glyph a ∷ glyph b ∷ glyph c ∷ glyph d ∷ []) ≡ of_digits a b c d
digits_mask a b c d sa sb sc sd = rw (glyph_value a sa) (rw (glyph_value b sb) (rw (glyph_value c sc) (rw (glyph_value d sd) (omega arith))))

pub mask_digits : (a b c d : ℕ) → a < 16 → b < 16 → c < 16 → d < 16 → hex4 (of_digits a b c d) ≡ glyph a ∷ glyph b ∷ glyph c ∷ glyph d ∷ []
unfolding hex4
mask_digits a b c d sa sb sc sd = grind arith

-- a word of four digits
pub word_mask : (word : List ℕ) (a b c d : ℕ) → word ≡ glyph a ∷ glyph b ∷ glyph c ∷ glyph d ∷ [] → a < 16 → b < 16 → c < 16 → d < 16 →
    mask_of word ≡ of_digits a b c d
word_mask word a b c d e sa sb sc sd = rw e (digits_mask a b c d sa sb sc sd)

pub mask_yes : (n : ℕ) (word : List ℕ) (a b c d : ℕ) → word ≡ glyph a ∷ glyph b ∷ glyph c ∷ glyph d ∷ [] → a < 16 → b < 16 → c < 16 →
    d < 16 → of_digits a b c d < 2 ^ n - 1 → is_mask n word ≡ true
mask_yes n word a b c d e sa sb sc sd within =
    let test : nat_lt (of_digits a b c d) (2 ^ n - 1) ≡ true = grind arith in
    rw (word_mask word a b c d e sa sb sc sd) (rw (mask_digits a b c d sa sb sc sd ∙ sym e) (rw (same_self word) (rw test refl)))

-- other words
pub mask_no : (n : ℕ) (word : List ℕ) → (word ≡ hex4 (mask_of word) → mask_of word < 2 ^ n - 1 → ⊥) → is_mask n word ≡ false
mask_no n word never = false_from_ne_true (is_mask n word) (λ yes. let m = mask_is n word yes in never (sym m.0) m.1)

pub four_long : (word : List ℕ) → word ≡ hex4 (mask_of word) → length word ≡ 4
unfolding hex4
four_long word e = ap length e

-- each of the four is a digit
pub digit_at : (word : List ℕ) → word ≡ hex4 (mask_of word) → (i : ℕ) → i < 4 → (d : ℕ) × (d < 16) × (get_or word i 0 ≡ glyph d)
unfolding hex4
digit_at word e zero within = (mask_of word / 16 ^ 3 % 16, omega arith, ap (λ w. get_or w 0 0) e)
digit_at word e (suc zero) within = (mask_of word / 16 ^ 2 % 16, omega arith, ap (λ w. get_or w 1 0) e)
digit_at word e (suc (suc zero)) within = (mask_of word / 16 ^ 1 % 16, omega arith, ap (λ w. get_or w 2 0) e)
digit_at word e (suc (suc (suc zero))) within = (mask_of word / 16 ^ 0 % 16, omega arith, ap (λ w. get_or w 3 0) e)
digit_at word e (suc (suc (suc (suc i)))) within = absurd (omega arith)

pub four_bytes : (word : List ℕ) (a b c d : ℕ) → length word ≡ 4 → get_or word 0 0 ≡ a → get_or word 1 0 ≡ b → get_or word 2 0 ≡ c →
    get_or word 3 0 ≡ d → word ≡ a ∷ b ∷ c ∷ d ∷ []
four_bytes [] a b c d long ea eb ec ed = absurd (omega arith)
four_bytes (x ∷ []) a b c d long ea eb ec ed = absurd (omega arith)
four_bytes (x ∷ y ∷ []) a b c d long ea eb ec ed = absurd (omega arith)
four_bytes (x ∷ y ∷ z ∷ []) a b c d long ea eb ec ed = absurd (omega arith)
four_bytes (x ∷ y ∷ z ∷ w ∷ []) a b c d long ea eb ec ed = rw ea (rw eb (rw ec (rw ed refl)))
four_bytes (x ∷ y ∷ z ∷ w ∷ v ∷ more) a b c d long ea eb ec ed = absurd (omega arith)
