-- The text of a certificate, as a function of its value, in either format.
--     hex4 mask      how a mask is written; a number is written in decimals
--     word_lines cert, spelling cert      the words of each line; the text
--     HasSpelling cert      which certificates have one
use Rattle.std.specs.Prelude.{◌≡◌, ℕ, ◌+◌, ◌-◌, ◌*◌, ◌/◌, ◌%◌, ◌^◌, ◌≤◌, ◌<◌, ◌⊎◌, false, if◌then◌else◌, nat_eq, List, [], ◌∷◌, ◌++◌, length, map, codes, decimal, AllPairs}
use Rattle.std.specs.List.{All, flat_map, join_with_byte}
use Rattle.std.specs.Fmt.{digit_glyph}
use Rattle.definitions.specs.Pairs.{Pair}
use Rattle.definitions.specs.Certificates.{Certificate, Cell}

-- the largest cost, level count and total
abbrev pub most_nodes : ℕ
most_nodes = 999999

-- the largest number of pairs: each two of 16 variables
abbrev pub most_pairs : ℕ
most_pairs = 240

-- a mask: four hexadecimal digits
unfoldable pub hex4 : ℕ → List ℕ
hex4 mask = map (λ k. digit_glyph false (mask / 16 ^ k % 16)) (3 ∷ 2 ∷ 1 ∷ 0 ∷ [])

-- a fixed word with numbers after it
abbrev pub field : List ℕ → List ℕ → List (List ℕ)
field name numbers = name ∷ map decimal numbers

-- a line with the number of the lines that follow it, and these
abbrev pub section : List ℕ → List (List (List ℕ)) → List (List (List ℕ))
section name entries = field name (length entries ∷ []) ∷ entries

-- the words of a pair
abbrev pub pair_words : Pair → List (List ℕ)
pair_words p = map decimal (p.0 ∷ p.1 ∷ [])

-- the words of a listed set
abbrev pub cell_words : Cell → List (List ℕ)
cell_words cell = hex4 cell.mask ∷ decimal cell.cost ∷ []

-- the lines of pairs, which format 2 alone has
abbrev pub pair_lines : ℕ → List Pair → List (List (List ℕ))
pair_lines format pairs = if nat_eq format 1 then [] else section (codes "pairs") (map pair_words pairs)

-- the words of the first six lines
abbrev pub head_lines : Certificate → List (List (List ℕ))
head_lines cert = field (codes "bddorder-certificate") (cert.format ∷ [])
    ∷ field (codes "inputs") (cert.inputs ∷ [])
    ∷ field (codes "outputs") (cert.outputs ∷ [])
    ∷ field (codes "order") cert.order
    ∷ field (codes "levels") cert.levels
    ∷ field (codes "total") (cert.total ∷ []) ∷ []

-- the words of each line
unfoldable pub word_lines : Certificate → List (List (List ℕ))
word_lines cert = head_lines cert
    ++ (pair_lines cert.format cert.pairs
    ++ (section (codes "cells") (map cell_words cert.cells) ++ (codes "end" ∷ []) ∷ []))

-- words with one space between each two, and a line feed
unfoldable pub text_line : List (List ℕ) → List ℕ
text_line words = join_with_byte 32 words ++ 10 ∷ []

-- the text of a certificate
unfoldable pub spelling : Certificate → List ℕ
spelling cert = flat_map text_line (word_lines cert)

-- what a pair of n variables may be
abbrev pub IsPair : ℕ → Pair → Type 0
IsPair n p = (p.0 < n) × (p.1 < n)

-- pairs rise by their first number and then by their second, which is below 16
abbrev pub pair_key : Pair → ℕ
pair_key p = p.0 * 16 + p.1

-- what a listed set of n variables may be: it is not that of all of them
pub record IsCell (n : ℕ) (cell : Cell) : Type 0 where
  pub mask : cell.mask < 2 ^ n - 1
  pub cost : cell.cost ≤ most_nodes

-- which certificates have a spelling
pub record HasSpelling (cert : Certificate) : Type 0 where
  pub format : ((cert.format ≡ 1) × (cert.pairs ≡ [])) ⊎ (cert.format ≡ 2)
  pub inputs : (1 ≤ cert.inputs) × (cert.inputs ≤ 16)
  pub outputs : (1 ≤ cert.outputs) × (cert.outputs ≤ 16)
  pub order : (length cert.order ≡ cert.inputs) × All (λ x. x ≤ 15) cert.order
  pub levels : (length cert.levels ≡ cert.inputs) × All (λ count. count ≤ most_nodes) cert.levels
  pub total : cert.total ≤ most_nodes
  pub pair_count : length cert.pairs ≤ most_pairs
  pub pairs : All (IsPair cert.inputs) cert.pairs
  pub pairs_rise : AllPairs (λ (p q : Pair). pair_key p < pair_key q) cert.pairs
  pub cell_count : length cert.cells ≤ 2 ^ cert.inputs - 1
  pub cells : All (IsCell cert.inputs) cert.cells
  pub cells_rise : AllPairs (λ (a b : Cell). a.mask < b.mask) cert.cells
