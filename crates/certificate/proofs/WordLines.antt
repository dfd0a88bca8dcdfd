-- Lines and words of a text that is made of lines of words.
use Rattle.std.proofs.Common.{◌≡◌, ℕ, ◌^◌, ◌≤◌, ◌<◌, refl, ◌∙◌, ap, Bool, true, false, not, ◌&&◌, ◌==◌, List, [], ◌∷◌, ◌++◌, map, decimal, arith}
use Rattle.std.specs.List.{AllByRecursion, flat_map, join_with_byte, slice_split, list_all}
use Rattle.std.specs.Str.Parse.{AllDigits}
use Rattle.std.specs.Char.{digit_value}
use Rattle.std.specs.Fmt.{digit_glyph}
use Rattle.std.proofs.lemmas.Fmt.{decimal_is_IsNumeral}
use Rattle.std.proofs.lemmas.Str.{digit_value-digit_char}
use Rattle.std.proofs.lemmas.Str.Parse.{digit_from_value}
use mathlib.Core.List.{append_assoc}
use Rattle.certificate.specs.Spelling.{hex4, text_line}
use Rattle.definitions.specs.Texts.{number_of}
use Rattle.certificate.specs.Faults.{whole_lines, words, said, mask_of, onto_line}

-- a byte that ends neither a word nor a line
abbrev is_plain : ℕ → Bool
is_plain b = not (b == 32) && not (b == 10)

-- a word of such bytes
abbrev pub IsPlain : List ℕ → Type 0
IsPlain [] = Unit {0}
IsPlain (b ∷ bs) = ((b == 32) ≡ false) × ((b == 10) ≡ false) × IsPlain bs

-- a line of such words, and of one at least
abbrev pub ArePlain : List (List ℕ) → Type 0
ArePlain [] = Unit {0}
ArePlain (w ∷ ws) = IsPlain w × ArePlain ws

abbrev pub IsFilled : List (List ℕ) → Type 0
IsFilled [] = ⊥
IsFilled (w ∷ ws) = Unit {0}

-- lines of such words
abbrev pub AllPlain : List (List (List ℕ)) → Type 0
AllPlain [] = Unit {0}
AllPlain (ws ∷ lines) = ArePlain ws × IsFilled ws × AllPlain lines

pub plain_append : (xs ys : List (List (List ℕ))) → AllPlain xs → AllPlain ys → AllPlain (xs ++ ys)
plain_append [] ys left right = right
plain_append (x ∷ xs) ys (here, filled, left) right = (here, filled, plain_append xs ys left right)

-- a line without a line feed
abbrev pub HasNoFeed : List ℕ → Type 0
HasNoFeed [] = Unit {0}
HasNoFeed (b ∷ bs) = ((b == 10) ≡ false) × HasNoFeed bs

plain_has_none : (w : List ℕ) → IsPlain w → HasNoFeed w
plain_has_none [] plain = tt
plain_has_none (b ∷ bs) (space, feed, rest) = (feed, plain_has_none bs rest)

no_feed_append : (xs ys : List ℕ) → HasNoFeed xs → HasNoFeed ys → HasNoFeed (xs ++ ys)
no_feed_append [] ys left right = right
no_feed_append (x ∷ xs) ys (here, left) right = (here, no_feed_append xs ys left right)

joined_has_none : (ws : List (List ℕ)) → ArePlain ws → HasNoFeed (join_with_byte 32 ws)
joined_has_none [] plain = tt
joined_has_none (w ∷ []) (plain, rest) = plain_has_none w plain
joined_has_none (w ∷ v ∷ ws) (plain, rest) = no_feed_append w (32 ∷ join_with_byte 32 (v ∷ ws)) (plain_has_none w plain) (refl, joined_has_none (v ∷ ws) rest)

-- the lines of a line and what follows it
pub line_first : (line text : List ℕ) → HasNoFeed line → whole_lines (line ++ 10 ∷ text) ≡ line ∷ whole_lines text
unfolding whole_lines
line_first [] text none = refl
line_first (b ∷ line) text (here, none) = rw here (ap (onto_line b) (line_first line text none))

pub no_line : (text : List ℕ) → HasNoFeed text → whole_lines text ≡ []
unfolding whole_lines
no_line [] none = refl
no_line (b ∷ text) (here, none) = rw here (ap (onto_line b) (no_line text none))

-- words that are written out are plain, by computation
pub list_word : (w : List ℕ) → list_all is_plain w ≡ true → IsPlain w
list_word [] e = tt
list_word (b ∷ bs) e = grind (arith, list_word bs)

pub lines_back : (lines : List (List (List ℕ))) → AllPlain lines → whole_lines (flat_map text_line lines) ≡ map (join_with_byte 32) lines
unfolding text_line whole_lines
lines_back [] plain = refl
lines_back (ws ∷ lines) (plain, filled, rest) = grind (arith, append_assoc, line_first, joined_has_none, lines_back lines rest)

-- the words of a word and what follows it
abbrev is_space : ℕ → Bool
is_space b = b == 32

word_first : (w rest : List ℕ) → IsPlain w → slice_split is_space (w ++ 32 ∷ rest) ≡ w ∷ slice_split is_space rest
word_first [] rest plain = refl
word_first (b ∷ w) rest (space, feed, plain) = rw space (rw (word_first w rest plain) refl)

word_alone : (w : List ℕ) → IsPlain w → slice_split is_space w ≡ w ∷ []
word_alone [] plain = refl
word_alone (b ∷ w) (space, feed, plain) = rw space (rw (word_alone w plain) refl)

pub words_back : (ws : List (List ℕ)) → ArePlain ws → IsFilled ws → words (join_with_byte 32 ws) ≡ ws
unfolding words
words_back [] plain filled = elim filled [ ]
words_back (w ∷ []) (plain, rest) filled = word_alone w plain
words_back (w ∷ v ∷ ws) (plain, rest) filled = word_first w (join_with_byte 32 (v ∷ ws)) plain ∙ ap (λ more. w ∷ more) (words_back (v ∷ ws) rest tt)

all_words_back : (lines : List (List (List ℕ))) → AllPlain lines → map words (map (join_with_byte 32) lines) ≡ lines
all_words_back [] plain = refl
all_words_back (ws ∷ lines) (plain, filled, more) = rw (words_back ws plain filled) (rw (all_words_back lines more) refl)

-- the words of the lines of a text that is made of such lines
pub said_back : (lines : List (List (List ℕ))) → AllPlain lines → said (flat_map text_line lines) ≡ lines
said_back lines plain = ap (map words) (lines_back lines plain) ∙ all_words_back lines plain

digit_plain : (c : ℕ) → 48 ≤ c → ((c == 32) ≡ false) × ((c == 10) ≡ false)
digit_plain c low = (grind arith, grind arith)

digits_plain : (ds : List ℕ) → AllDigits 10 ds → IsPlain ds
digits_plain [] digits = tt
digits_plain (d ∷ ds) (digit, digits) = let range = digit_from_value d digit in let apart = digit_plain d range.0 in (apart.0, apart.1, digits_plain ds digits)

pub decimal_plain : (n : ℕ) → n < 2 ^ 64 → IsPlain (decimal n)
decimal_plain n small = digits_plain (decimal n) (decimal_is_IsNumeral n small).0.1

pub decimal_back : (n : ℕ) → n < 2 ^ 64 → number_of (decimal n) ≡ n
decimal_back n small = (decimal_is_IsNumeral n small).1

-- a hexadecimal digit
abbrev pub glyph : ℕ → ℕ
glyph d = digit_glyph false d

pub glyph_value : (d : ℕ) → d < 16 → digit_value (glyph d) ≡ d
glyph_value d small = digit_value-digit_char d (omega arith)

-- the digits of masks
pub hex_plain : (mask : ℕ) → IsPlain (hex4 mask)
unfolding hex4
hex_plain mask = grind arith

pub hex_back : (mask : ℕ) → mask < 65536 → mask_of (hex4 mask) ≡ mask
unfolding hex4
hex_back mask small = grind (arith, glyph_value)

-- decimals of small numbers
pub decimals_plain : (ns : List ℕ) → AllByRecursion (λ n. n < 2 ^ 64) ns → ArePlain (map decimal ns)
decimals_plain [] all = tt
decimals_plain (n ∷ ns) (here, all) = (decimal_plain n here, decimals_plain ns all)

pub decimals_back : (ns : List ℕ) → AllByRecursion (λ n. n < 2 ^ 64) ns → map number_of (map decimal ns) ≡ ns
decimals_back [] all = refl
decimals_back (n ∷ ns) (here, all) = rw (decimal_back n here) (rw (decimals_back ns all) refl)
