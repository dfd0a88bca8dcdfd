-- What is wrong with a certificate's text.
--     whole_lines text, words line, said text      the lines that end with a line feed; the words of a line; the words of these lines
--     judges ws      what each line of the text is asked, from the first on
--     faults text      the faulty lines with their numbers, counted from 1, and then what follows the end
--     Spells text cert, FirstCertFault text line fault      the text is the certificate's spelling; its first fault
use Rattle.std.specs.Prelude.{◌≡◌, ℕ, ◌+◌, ◌-◌, ◌^◌, Bool, not, if◌then◌else◌, ◌&&◌, ◌||◌, ◌==◌, List, [], ◌∷◌, ◌++◌, length, map, take, codes, decimal, Option, Some, None, nat_lt, nat_le, nat_eq}
use Rattle.std.specs.List.{slice_split, slice_index_or, range_with_len, list_all, flat_map}
use Rattle.std.specs.Cmp.Lexicographic.{pointwise}
use Rattle.std.specs.Str.Parse.{digits_value}
use Rattle.definitions.specs.Texts.{same, number_of, first_fault}
use Rattle.definitions.specs.Certificates.{Certificate}
use Rattle.certificate.specs.declared.faults.LineFault.{LineFault}
use Rattle.certificate.specs.declared.faults.LineFault.TheVariants.{MissingLine, BadLine, BadNumber, NotRising, TrailingText}
use Rattle.certificate.specs.Spelling.{HasSpelling, spelling, hex4, most_nodes, most_pairs, pair_key}

-- a byte put before the first line, if there is one
abbrev pub onto_line : ℕ → List (List ℕ) → List (List ℕ)
onto_line b [] = []
onto_line b (line ∷ lines) = (b ∷ line) ∷ lines

-- the lines that end with a line feed, without it
unfoldable pub whole_lines : List ℕ → List (List ℕ)
whole_lines [] = []
whole_lines (b ∷ text) = if b == 10 then [] ∷ whole_lines text else onto_line b (whole_lines text)

-- the words of a line: one space stands between each two
unfoldable pub words : List ℕ → List (List ℕ)
words line = slice_split (λ b. b == 32) line

-- the number that hexadecimal digits write
abbrev pub mask_of : List ℕ → ℕ
mask_of word = digits_value 16 word

-- whether a word is a decimal, as it is written, from least to most
abbrev pub is_decimal : ℕ → ℕ → List ℕ → Bool
is_decimal least most word = same word (decimal (number_of word))
    && (nat_le least (number_of word) && nat_le (number_of word) most)

-- whether a word is a mask, as it is written, of some variables of n but not of all
abbrev pub is_mask : ℕ → List ℕ → Bool
is_mask n word = same word (hex4 (mask_of word)) && nat_lt (mask_of word) (2 ^ n - 1)

-- the words of the lines of a text
abbrev pub said : List ℕ → List (List (List ℕ))
said text = map words (whole_lines text)

-- word i of line k, or an empty one
abbrev pub word_at : List (List (List ℕ)) → ℕ → ℕ → List ℕ
word_at ws k i = slice_index_or (slice_index_or ws k []) i []

-- the number after the first word of line k
abbrev pub number_said : List (List (List ℕ)) → ℕ → ℕ
number_said ws k = number_of (word_at ws k 1)

-- what is asked of the words of a line
abbrev pub LineTest : Type 0
LineTest = List (List ℕ) → Option LineFault

-- a line of fixed words
abbrev pub fixed_fault : List (List ℕ) → LineTest
fixed_fault wanted given = first_fault ((not (pointwise same given wanted), BadLine) ∷ [])

-- the first line, of either format
abbrev pub title_fault : LineTest
title_fault given = first_fault ((
  not (pointwise same given (codes "bddorder-certificate" ∷ codes "1" ∷ []) || pointwise same given
      (codes "bddorder-certificate" ∷ codes "2" ∷ [])),
  BadLine,
) ∷ [])

-- a line of a fixed word with a count of decimals from least to most
abbrev pub field_fault : List ℕ → ℕ → ℕ → ℕ → LineTest
field_fault name count least most [] = Some BadLine
field_fault name count least most (word ∷ numbers) = first_fault (
    (not (same word name) || not (length numbers == count), BadLine)
    ∷ (not (list_all (is_decimal least most) numbers), BadNumber) ∷ [])

-- a line of two words that are entries of a kind, and whose key is above that of the line before
abbrev pub entry_fault : (List ℕ → List ℕ → Bool) → (List ℕ → List ℕ → Bool) → LineTest
entry_fault is_entry is_above (first ∷ second ∷ []) = first_fault (
    (not (is_entry first second), BadNumber)
    ∷ (not (is_above first second), NotRising) ∷ [])
entry_fault is_entry is_above _ = Some BadLine

-- a pair of variables below n
abbrev pub is_pair : ℕ → List ℕ → List ℕ → Bool
is_pair n above below = is_decimal 0 (n - 1) above && is_decimal 0 (n - 1) below

-- a set of some variables of n but not of all, with a cost
abbrev pub is_cell : ℕ → List ℕ → List ℕ → Bool
is_cell n mask cost = is_mask n mask && is_decimal 0 most_nodes cost

-- what entries rise by
abbrev pub pair_key_of : List ℕ → List ℕ → ℕ
pair_key_of above below = pair_key (number_of above, number_of below)

abbrev pub cell_key_of : List ℕ → List ℕ → ℕ
cell_key_of mask cost = mask_of mask

-- whether the key of an entry in line k is above that of the line before; the first entry stands in line first
abbrev pub rises : (List ℕ → List ℕ → ℕ) → List (List (List ℕ)) → ℕ → ℕ → List ℕ → List ℕ → Bool
rises key ws first k a b = k == first || nat_lt (key (word_at ws (k - 1) 0) (word_at ws (k - 1) 1)) (key a b)

-- a line with a count of at most most, and as many lines of entries; the first line is line at, counted from 0
abbrev pub section_judges : List ℕ → ℕ → (List ℕ → List ℕ → Bool) → (List ℕ → List ℕ → ℕ) → List (List (List ℕ)) → ℕ →
    List LineTest
section_judges name most is_entry key ws at =
    field_fault name 1 0 most ∷ map (λ k. entry_fault is_entry (rises key ws (at + 1) k))
    (range_with_len (at + 1) (number_said ws at))

-- the number of inputs that the lines say
abbrev pub inputs_said : List (List (List ℕ)) → ℕ
inputs_said ws = number_said ws 1

-- what is asked of the lines of pairs, which format 2 alone has
abbrev pub pairs_judges : List (List (List ℕ)) → List LineTest
pairs_judges ws =
    if nat_eq (number_said ws 0) 1 then []
    else section_judges (codes "pairs") most_pairs (is_pair (inputs_said ws)) pair_key_of ws 6

-- what is asked of the lines of listed sets, the first of which is line at
abbrev pub cells_judges : List (List (List ℕ)) → ℕ → List LineTest
cells_judges ws at = section_judges (codes "cells") (2 ^ inputs_said ws - 1)
    (is_cell (inputs_said ws)) cell_key_of ws at

-- what is asked of the first six lines, for a number of inputs
abbrev pub head_judges : ℕ → List LineTest
head_judges n = title_fault
    ∷ field_fault (codes "inputs") 1 1 16
    ∷ field_fault (codes "outputs") 1 1 16
    ∷ field_fault (codes "order") n 0 15
    ∷ field_fault (codes "levels") n 0 most_nodes
    ∷ field_fault (codes "total") 1 0 most_nodes ∷ []

-- what is asked of the words of each line, from the first on, by what the lines before it say
unfoldable pub judges : List (List (List ℕ)) → List LineTest
judges ws = head_judges (inputs_said ws)
    ++ (pairs_judges ws ++ (cells_judges ws (6 + length (pairs_judges ws)) ++ fixed_fault (codes "end" ∷ []) ∷ []))

-- a fault with the number of its line, if there is one
abbrev pub numbered : ℕ → Option LineFault → List (ℕ × LineFault)
numbered number None = []
numbered number (Some fault) = (number, fault) ∷ []

-- the faulty lines, counted from a number on, by what each is asked
unfoldable pub line_faults : ℕ → List LineTest → List (List (List ℕ)) → List (ℕ × LineFault)
line_faults number [] ws = []
line_faults number (judge ∷ others) [] = (number, MissingLine) ∷ line_faults (number + 1) others []
line_faults number (judge ∷ others) (line ∷ ws) = numbered number (judge line) ++ line_faults (number + 1) others ws

-- the text of some lines, each with its line feed
abbrev pub with_feeds : List (List ℕ) → List ℕ
with_feeds lines = flat_map (λ line. line ++ 10 ∷ []) lines

-- what follows so many lines of a text
unfoldable pub trailing : ℕ → List ℕ → List (ℕ × LineFault)
trailing count text =
    if nat_lt (length (with_feeds (take count (whole_lines text)))) (length text) then (count + 1, TrailingText) ∷ []
    else []

-- all faulty lines, and then what follows the last one
unfoldable pub faults : List ℕ → List (ℕ × LineFault)
faults text = line_faults 1 (judges (said text)) (said text) ++ trailing (length (judges (said text))) text

-- the text is the spelling of the certificate
pub record Spells (text : List ℕ) (cert : Certificate) : Type 0 where
  pub has : HasSpelling cert
  pub text_is : text ≡ spelling cert

-- the first fault of the text
pub record FirstCertFault (text : List ℕ) (line : ℕ) (fault : LineFault) : Type 0 where
  pub others : List (ℕ × LineFault)
  pub first : faults text ≡ (line, fault) ∷ others
