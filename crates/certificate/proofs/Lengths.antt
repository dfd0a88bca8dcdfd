-- How long the text of a certificate is.
--     line_length name ns      the bytes of a line of a fixed word and numbers
--     spelling_length      at most 6 bytes a pair and 12 a listed set, beside 256
--     text_readable      so no text is longer than what is read
use Rattle.std.proofs.Common.{◌≡◌, ℕ, ◌+◌, ◌*◌, ◌≤◌, true, false, cond, List, [], ◌∷◌, ◌++◌, length, map, refl, ap, arith, codes, decimal, length-append, append-nil, nat_eq, Bool}
use Rattle.std.proofs.Math.Nat.{pow-le-pow_right}
use Rattle.std.specs.List.{AllByRecursion, flat_map}
use Rattle.std.proofs.lemmas.Fmt.{length-decimal-le}
use Rattle.std.proofs.lemmas.Grind.{flat_map-append}
use Rattle.std.proofs.lemmas.List.{length-map}
use Rattle.std.proofs.lemmas.List.Elements.{recursion_from_All}
use Rattle.definitions.specs.Pairs.{Pair}
use Rattle.definitions.specs.Certificates.{Certificate, Cell}
use Rattle.certificate.specs.Spelling.{HasSpelling, IsCell, IsPair, hex4, field, section, head_lines, pair_lines, word_lines, text_line, spelling, pair_words, cell_words}
use Rattle.certificate.specs.Faults.{Spells}
use Rattle.certificate.specs.Heads.{most_bytes}
use Rattle.certificate.specs.Values.{each_spaced}
use Rattle.certificate.proofs.WrittenLines.{numbers_written, pair_written, cell_written}

-- decimals of numbers that are known to be small
one : (n : ℕ) → n ≤ 2 → length (decimal n) ≤ 1
one n few = length-decimal-le 1 n (omega arith) (omega arith) (omega arith)

six : (n : ℕ) → n ≤ 999999 → length (decimal n) ≤ 6
six n few = length-decimal-le 6 n (omega arith) (omega arith) (omega arith)

three : (n : ℕ) → n ≤ 240 → length (decimal n) ≤ 3
three n few = length-decimal-le 3 n (omega arith) (omega arith) (omega arith)

two : (n : ℕ) → n ≤ 16 → length (decimal n) ≤ 2
two n few = length-decimal-le 2 n (omega arith) (omega arith) (omega arith)

five : (n : ℕ) → n ≤ 65535 → length (decimal n) ≤ 5
five n few = length-decimal-le 5 n (omega arith) (omega arith) (omega arith)

-- a line of a fixed word and numbers
line_length : (name ns : List ℕ) → length (text_line (field name ns)) ≡ length name + length (each_spaced ns) + 1
line_length name ns =
    let l = ap length (numbers_written [] name (name ++ each_spaced ns) ((name ++ each_spaced ns) ++ 10 ∷ []) name ns refl refl refl) in
    omega (arith, length-append (name ++ each_spaced ns) (10 ∷ []), length-append name (each_spaced ns))

spaced_length : (most bytes : ℕ) → ((n : ℕ) → n ≤ most → length (decimal n) ≤ bytes) → (ns : List ℕ) → AllByRecursion (λ n. n ≤ most) ns →
    length (each_spaced ns) ≤ (bytes + 1) * length ns
spaced_length most bytes few [] small = omega arith
spaced_length most bytes few (n ∷ ns) (here, small) = grind (arith, length-append, spaced_length most bytes few ns small)

numbers_length : (name : List ℕ) (most bytes : ℕ) → ((n : ℕ) → n ≤ most → length (decimal n) ≤ bytes) → (ns : List ℕ) →
    AllByRecursion (λ n. n ≤ most) ns → length (text_line (field name ns)) ≤ length name + (bytes + 1) * length ns + 1
numbers_length name most bytes few ns small = omega (arith, line_length name ns, spaced_length most bytes few ns small)

number_length : (name : List ℕ) (n bytes : ℕ) → length (decimal n) ≤ bytes → length (text_line (field name (n ∷ []))) ≤ length name + bytes + 2
number_length name n bytes few = omega (arith, line_length name (n ∷ []), length-append (decimal n) [])

-- lines that are of so many bytes each
lines_length : {E : Type 0} (P : E → Type 0) (write : E → List (List ℕ)) (bytes : ℕ) → ((e : E) → P e → length (text_line (write e)) ≤ bytes) →
    (es : List E) → AllByRecursion P es → length (flat_map text_line (map write es)) ≤ bytes * length es
lines_length P write bytes few [] all = omega arith
lines_length P write bytes few (e ∷ es) (here, all) = grind (arith, length-append, lines_length P write bytes few es all)

pair_length : (n : ℕ) → n ≤ 16 → (p : Pair) → IsPair n p → length (text_line (pair_words p)) ≤ 6
pair_length n few p (above, below) =
    let b = length-append (decimal p.1) (10 ∷ []) in
    let c = two p.0 (omega arith) in
    let d = two p.1 (omega arith) in
    omega (arith, ap length (pair_written p), length-append (decimal p.0) (32 ∷ (decimal p.1 ++ 10 ∷ [])))

hex4_length : (mask : ℕ) → length (hex4 mask) ≡ 4
unfolding hex4
hex4_length mask = refl

cell_length : (n : ℕ) (cell : Cell) → IsCell n cell → length (text_line (cell_words cell)) ≤ 12
cell_length n cell is =
    let b = length-append (decimal cell.cost) (10 ∷ []) in
    let c = hex4_length cell.mask in
    let d = six cell.cost is.cost in
    omega (arith, ap length (cell_written cell), length-append (hex4 cell.mask) (32 ∷ (decimal cell.cost ++ 10 ∷ [])))

end_length : length (text_line (codes "end" ∷ [])) ≡ 4
unfolding text_line
end_length = refl

section_length : (name : List ℕ) (entries : List (List (List ℕ))) (digits bytes : ℕ) → length (decimal (length entries)) ≤ digits →
    length (flat_map text_line entries) ≤ bytes → length (flat_map text_line (section name entries)) ≤ length name + digits + 2 + bytes
section_length name entries digits bytes a b = grind (arith, length-append, number_length)

six_lines : (a b c d e f : List (List ℕ)) → length (flat_map text_line (a ∷ b ∷ c ∷ d ∷ e ∷ f ∷ [])) ≡
    length (text_line a) + (length (text_line b) + (length (text_line c) + (length (text_line d) + (length (text_line e) + length (text_line f)))))
six_lines a b c d e f = simp (length-append, append-nil)

module _ (cert : Certificate) (has : HasSpelling cert) where
  cells_few : length cert.cells ≤ 65535
  cells_few = grind (arith, pow-le-pow_right)

  format_small : cert.format ≤ 2
  format_small = grind arith

  head_length : length (flat_map text_line (head_lines cert)) ≤ 230
  head_length =
      let all = six_lines (field (codes "bddorder-certificate") (cert.format ∷ [])) (field (codes "inputs") (cert.inputs ∷ []))
      (field (codes "outputs") (cert.outputs ∷ [])) (field (codes "order") cert.order) (field (codes "levels") cert.levels)
      (field (codes "total") (cert.total ∷ [])) in
      let b = number_length (codes "inputs") cert.inputs 2 (two cert.inputs has.inputs.1) in
      let c = number_length (codes "outputs") cert.outputs 2 (two cert.outputs has.outputs.1) in
      let d = numbers_length (codes "order") 15 2 (λ n few. two n (omega arith)) cert.order (recursion_from_All _ cert.order has.order.1) in
      let e = numbers_length (codes "levels") 999999 6 six cert.levels (recursion_from_All _ cert.levels has.levels.1) in
      grind (arith, number_length, six, one)

  pairs_length : length (flat_map text_line (pair_lines cert.format cert.pairs)) ≤ 10 + 6 * length cert.pairs
  pairs_length = by (nat_eq cert.format 1) where
    by : (b : Bool) → length (flat_map text_line (cond b [] (section (codes "pairs") (map pair_words cert.pairs)))) ≤ 10 + 6 * length cert.pairs
    by true = omega arith
    by false =
        section_length (codes "pairs") (map pair_words cert.pairs) 3 (6 * length cert.pairs)
        (three (length (map pair_words cert.pairs)) (omega (arith, length-map cert.pairs pair_words)))
        (lines_length (IsPair cert.inputs) pair_words 6 (pair_length cert.inputs has.inputs.1) cert.pairs (recursion_from_All _ cert.pairs has.pairs))

  cells_length : length (flat_map text_line (section (codes "cells") (map cell_words cert.cells))) ≤ 12 + 12 * length cert.cells
  cells_length =
      let l = length-map cert.cells cell_words in
      let few = cells_few in
      section_length (codes "cells") (map cell_words cert.cells) 5 (12 * length cert.cells) (five (length (map cell_words cert.cells)) (omega arith))
      (lines_length (IsCell cert.inputs) cell_words 12 (cell_length cert.inputs) cert.cells (recursion_from_All _ cert.cells has.cells))

  -- at most 6 bytes a pair and 12 a listed set, beside 256
  pub spelling_length : length (spelling cert) ≤ 256 + 6 * length cert.pairs + 12 * length cert.cells
  unfolding spelling word_lines
  spelling_length = grind (arith, flat_map-append, length-append, head_length, pairs_length, cells_length, end_length)

  pub spelling_readable : length (spelling cert) ≤ most_bytes
  spelling_readable = let l = spelling_length in let few = cells_few in omega arith

-- a text that spells a certificate is no longer than what is read
pub text_readable : (text : List ℕ) (cert : Certificate) → Spells text cert → length text ≤ most_bytes
text_readable text cert spells = rw spells.text_is (spelling_readable cert spells.has)
