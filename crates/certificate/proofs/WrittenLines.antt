-- Lines of a text that is written piece by piece.
use Rattle.std.proofs.Common.{◌≡◌, ℕ, ◌+◌, ◌/◌, ◌%◌, ◌<◌, ◌≤◌, refl, sym, ◌∙◌, ap, true, false, ◌==◌, inl, inr, ◌⊎◌, List, [], ◌∷◌, ◌++◌, length, map, take, get_or, codes, decimal, arith, append_assoc, append-nil}
use Rattle.std.specs.List.{flat_map, join_with_byte}
use Rattle.std.specs.Fmt.{char_count, digits, format_spec, padded_integral}
use Rattle.std.proofs.lemmas.Bool.{cases_lt}
use Rattle.std.proofs.lemmas.List.{take_more, map-append}
use Rattle.std.proofs.lemmas.Grind.{flat_map-append}
use Rattle.definitions.specs.Pairs.{Pair}
use Rattle.definitions.specs.Certificates.{Certificate, Cell}
use Rattle.certificate.specs.Spelling.{hex4, field, section, head_lines, pair_lines, word_lines, text_line, spelling, pair_words, cell_words}
use Rattle.certificate.specs.Values.{each_spaced}
use Rattle.certificate.proofs.WordLines.{glyph}

-- words after the first one
behind : (w : List ℕ) (ns : List ℕ) → join_with_byte 32 (w ∷ map decimal ns) ≡ w ++ each_spaced ns
behind w [] = sym (append-nil w)
behind w (n ∷ ns) = ap (λ r. w ++ (32 ∷ r)) (behind (decimal n) ns)

-- a line of a fixed word and numbers, written piece by piece
pub numbers_written : (s₀ s₁ s₂ s₃ name : List ℕ) (ns : List ℕ) → s₁ ≡ s₀ ++ name → s₂ ≡ s₁ ++ each_spaced ns → s₃ ≡ s₂ ++ 10 ∷ [] →
    s₃ ≡ s₀ ++ text_line (field name ns)
unfolding text_line
numbers_written s₀ s₁ s₂ s₃ name ns a b c = grind (arith, append_assoc, behind)

pub number_written : (name : List ℕ) (n : ℕ) → name ++ (32 ∷ (decimal n ++ 10 ∷ [])) ≡ text_line (field name (n ∷ []))
unfolding text_line
number_written name n = sym (append_assoc name (32 ∷ decimal n) (10 ∷ []))

pub pair_written : (p : Pair) → decimal p.0 ++ (32 ∷ (decimal p.1 ++ 10 ∷ [])) ≡ text_line (pair_words p)
unfolding text_line
pair_written p = sym (append_assoc (decimal p.0) (32 ∷ decimal p.1) (10 ∷ []))

pub cell_written : (cell : Cell) → hex4 cell.mask ++ (32 ∷ (decimal cell.cost ++ 10 ∷ [])) ≡ text_line (cell_words cell)
unfolding text_line
cell_written cell = sym (append_assoc (hex4 cell.mask) (32 ∷ decimal cell.cost) (10 ∷ []))

-- one entry more
pub entries_more : {E : Type 0} (write : E → List (List ℕ)) (s₀ s₁ s₂ : List ℕ) (es : List E) (i : ℕ) (d : E) → i < length es →
    s₁ ≡ s₀ ++ flat_map text_line (map write (take i es)) → s₂ ≡ s₁ ++ text_line (write (get_or es i d)) →
    s₂ ≡ s₀ ++ flat_map text_line (map write (take (i + 1) es))
entries_more write s₀ s₁ s₂ es i d within a b =
    let more : flat_map text_line (map write (take (i + 1) es)) ≡ flat_map text_line (map write (take i es)) ++ text_line (write (get_or es i d)) =
    ap (λ xs. flat_map text_line (map write xs)) (take_more es i d within) ∙ ap (flat_map text_line) (map-append write (take i es) (get_or es i d ∷ []))
    ∙ flat_map-append text_line (map write (take i es)) (write (get_or es i d) ∷ [])
    ∙ ap (λ r. flat_map text_line (map write (take i es)) ++ r) (append-nil (text_line (write (get_or es i d)))) in
    grind (arith, append_assoc)

-- a mask in four hexadecimal digits
four : (a b c d : ℕ) (mask : ℕ) → a ≡ mask / 4096 % 16 → b ≡ mask / 256 % 16 → c ≡ mask / 16 % 16 → d ≡ mask / 1 % 16 →
    glyph a ∷ glyph b ∷ glyph c ∷ glyph d ∷ [] ≡ hex4 mask
unfolding hex4
four a b c d mask ea eb ec ed = rw ea (rw eb (rw ec (rw ed refl)))

-- zeros before one to three digits
abbrev padded_to : List ℕ → List ℕ
padded_to ds = padded_integral (format_spec 32 0 4 4 18446744073709551615) false [] ds

pad_one : (a : ℕ) → padded_to (a ∷ []) ≡ 48 ∷ 48 ∷ 48 ∷ a ∷ []
unfolding padded_integral char_count
pad_one a = refl

pad_two : (a b : ℕ) → padded_to (a ∷ b ∷ []) ≡ 48 ∷ 48 ∷ a ∷ b ∷ []
unfolding padded_integral char_count
pad_two a b = refl

pad_three : (a b c : ℕ) → padded_to (a ∷ b ∷ c ∷ []) ≡ 48 ∷ a ∷ b ∷ c ∷ []
unfolding padded_integral char_count
pad_three a b c = refl

pad_four : (a b c d : ℕ) → padded_to (a ∷ b ∷ c ∷ d ∷ []) ≡ a ∷ b ∷ c ∷ d ∷ []
unfolding padded_integral char_count
pad_four a b c d = refl

-- the hexadecimal digits of a mask
one_digit : (mask : ℕ) → mask < 16 → digits 16 false mask ≡ glyph (mask % 16) ∷ []
unfolding digits
one_digit mask small = let end : (mask / 16 == 0) ≡ true = grind arith in rw end refl

two_digits : (mask : ℕ) → 16 ≤ mask → mask < 256 → digits 16 false mask ≡ glyph (mask / 16 % 16) ∷ glyph (mask % 16) ∷ []
unfolding digits
two_digits mask low small =
    let more : (mask / 16 == 0) ≡ false = grind arith in let end : (mask / 16 / 16 == 0) ≡ true = grind arith in rw more (rw end refl)

three_digits : (mask : ℕ) → 256 ≤ mask → mask < 4096 → digits 16 false mask ≡ glyph (mask / 16 / 16 % 16) ∷ glyph (mask / 16 % 16) ∷ glyph (mask % 16) ∷ []
unfolding digits
three_digits mask low small =
    let more : (mask / 16 == 0) ≡ false = grind arith in let third : (mask / 16 / 16 == 0) ≡ false = grind arith in
    let end : (mask / 16 / 16 / 16 == 0) ≡ true = grind arith in rw more (rw third (rw end refl))

four_digits : (mask : ℕ) → 4096 ≤ mask → mask < 65536 →
    digits 16 false mask ≡ glyph (mask / 16 / 16 / 16 % 16) ∷ glyph (mask / 16 / 16 % 16) ∷ glyph (mask / 16 % 16) ∷ glyph (mask % 16) ∷ []
unfolding digits
four_digits mask low small =
    let more : (mask / 16 == 0) ≡ false = grind arith in let third : (mask / 16 / 16 == 0) ≡ false = grind arith in
    let fourth : (mask / 16 / 16 / 16 == 0) ≡ false = grind arith in let end : (mask / 16 / 16 / 16 / 16 == 0) ≡ true = grind arith in
    rw more (rw third (rw fourth (rw end refl)))

-- and with zeros before them up to four
pub zero_padded : (mask : ℕ) → mask < 65536 → padded_integral (format_spec 32 0 4 4 18446744073709551615) false [] (digits 16 false mask) ≡ hex4 mask
zero_padded mask small = by (cases_lt mask 16) (cases_lt mask 256) (cases_lt mask 4096) where
  by : (mask < 16) ⊎ (16 ≤ mask) → (mask < 256) ⊎ (256 ≤ mask) → (mask < 4096) ⊎ (4096 ≤ mask) → padded_to (digits 16 false mask) ≡ hex4 mask
  by (inl a) b c = ap padded_to (one_digit mask a) ∙ pad_one (glyph (mask % 16))
      ∙ four 0 0 0 (mask % 16) mask (omega arith) (omega arith) (omega arith) (omega arith)
  by (inr a) (inl b) c = ap padded_to (two_digits mask a b) ∙ pad_two (glyph (mask / 16 % 16)) (glyph (mask % 16))
      ∙ four 0 0 (mask / 16 % 16) (mask % 16) mask (omega arith) (omega arith) (omega arith) (omega arith)
  by (inr a) (inr b) (inl c) =
      ap padded_to (three_digits mask b c) ∙ pad_three (glyph (mask / 16 / 16 % 16)) (glyph (mask / 16 % 16)) (glyph (mask % 16))
      ∙ four 0 (mask / 16 / 16 % 16) (mask / 16 % 16) (mask % 16) mask (omega arith) (omega arith) (omega arith) (omega arith)
  by (inr a) (inr b) (inr c) = grind (arith, four_digits, pad_four, four)

-- a text after two others
pub after : (s₀ s₁ s₂ a b : List ℕ) → s₁ ≡ s₀ ++ a → s₂ ≡ s₁ ++ b → s₂ ≡ s₀ ++ (a ++ b)
after s₀ s₁ s₂ a b e g = g ∙ ap (λ s. s ++ b) e ∙ append_assoc s₀ a b

-- six lines, one after another
pub six_written : (s₀ s₁ s₂ s₃ s₄ s₅ s₆ : List ℕ) (a b c d e f : List (List ℕ)) → s₁ ≡ s₀ ++ text_line a → s₂ ≡ s₁ ++ text_line b →
    s₃ ≡ s₂ ++ text_line c → s₄ ≡ s₃ ++ text_line d → s₅ ≡ s₄ ++ text_line e → s₆ ≡ s₅ ++ text_line f →
    s₆ ≡ s₀ ++ flat_map text_line (a ∷ b ∷ c ∷ d ∷ e ∷ f ∷ [])
six_written s₀ s₁ s₂ s₃ s₄ s₅ s₆ a b c d e f ea eb ec ed ee ef = grind (arith, after, append-nil)

-- the whole text
pub spelling_written : (s₀ s₁ s₂ s₃ s₄ : List ℕ) (cert : Certificate) → s₀ ≡ [] → s₁ ≡ s₀ ++ flat_map text_line (head_lines cert) →
    s₂ ≡ s₁ ++ flat_map text_line (pair_lines cert.format cert.pairs) →
    s₃ ≡ s₂ ++ flat_map text_line (section (codes "cells") (map cell_words cert.cells)) → s₄ ≡ s₃ ++ codes "end\n" → s₄ ≡ spelling cert
unfolding spelling word_lines text_line
spelling_written s₀ s₁ s₂ s₃ s₄ cert none a b c d =
    let pairs = pair_lines cert.format cert.pairs in let cells = section (codes "cells") (map cell_words cert.cells) in let last = (codes "end" ∷ []) ∷ [] in
    let two = after s₁ s₂ s₄ (flat_map text_line pairs) _ b (after s₂ s₃ s₄ (flat_map text_line cells) (flat_map text_line last) c d) in
    let joined : flat_map text_line (head_lines cert ++ (pairs ++ (cells ++ last))) ≡ flat_map text_line (head_lines cert)
    ++ (flat_map text_line pairs ++ (flat_map text_line cells ++ flat_map text_line last)) =
    search flat_map-append in
    grind arith

-- a line of numbers that are told
pub stated : (s₀ s₁ name : List ℕ) (ms ns : List ℕ) → s₁ ≡ s₀ ++ text_line (field name ms) → ms ≡ ns → s₁ ≡ s₀ ++ text_line (field name ns)
stated s₀ s₁ name ms ns e same = e ∙ ap (λ ks. s₀ ++ text_line (field name ks)) same
