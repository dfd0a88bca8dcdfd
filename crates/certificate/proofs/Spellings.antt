-- A spelling has no fault, and says its certificate.
use Rattle.std.proofs.Common.{◌≡◌, ℕ, ◌+◌, ◌-◌, ◌^◌, ◌≤◌, ◌<◌, refl, sym, ◌∙◌, ap, false, cond, nat_eq, nat_lt, inl, inr, ◌⊎◌, List, [], ◌∷◌, ◌++◌, length, map, take, get_or, codes, None, arith, lit<}
use Rattle.std.specs.List.{AllByRecursion, AllPairs, flat_map, join_with_byte}
use Rattle.std.specs.Fmt.{digits}
use Rattle.std.proofs.lemmas.List.{length-map, length-append, take_all}
use Rattle.std.proofs.lemmas.List.Elements.{recursion_from_All}
use mathlib.Core.List.{append_assoc}
use Rattle.definitions.specs.Pairs.{Pair}
use Rattle.definitions.specs.Certificates.{Certificate, Cell}
use Rattle.certificate.specs.Spelling.{most_nodes, most_pairs, field, section, pair_words, pair_lines, cell_words, pair_key, IsPair, IsCell, head_lines, word_lines, text_line, spelling, HasSpelling}
use Rattle.certificate.specs.Faults.{whole_lines, said, number_said, inputs_said, is_pair, is_cell, pair_key_of, cell_key_of, title_fault, fixed_fault, section_judges, pairs_judges, cells_judges, judges, head_judges, with_feeds, trailing, faults}
use Rattle.certificate.proofs.WordLines.{AllPlain, ArePlain, list_word, decimal_plain, decimals_plain, decimals_back, decimal_back, hex_plain, plain_append, said_back, lines_back}
use Rattle.certificate.proofs.LineTests.{Pass, pass_length, pass_append, pass_none, IsFrom, field_passes}
use Rattle.certificate.specs.Decoded.{read_pair, read_cell, mask_key, section_said, cells_place, cert_of, numbers_of}
use Rattle.certificate.proofs.CertificateLines.{pair_kind, cell_kind, section_passes, section_back}
use Rattle.definitions.proofs.Bits.Masks.{power_small}

-- numbers that are small
small : (least most : ℕ) (ns : List ℕ) → most < 2 ^ 64 → AllByRecursion (λ n. n ≤ most) ns → AllByRecursion (λ n. n < 2 ^ 64) ns
small least most [] fits all = tt
small least most (n ∷ ns) fits (here, all) = (omega arith, small least most ns fits all)

from_zero : (most : ℕ) (ns : List ℕ) → AllByRecursion (λ n. n ≤ most) ns → AllByRecursion (IsFrom 0 most) ns
from_zero most [] all = tt
from_zero most (n ∷ ns) (here, all) = ((omega arith, here), from_zero most ns all)

pairs_plain : (n : ℕ) (ps : List Pair) → n ≤ 16 → AllByRecursion (IsPair n) ps → AllPlain (map pair_words ps)
pairs_plain n [] few all = tt
pairs_plain n (p ∷ ps) few ((above, below), all) = ((decimal_plain p.0 (omega arith), (decimal_plain p.1 (omega arith), tt)), tt, pairs_plain n ps few all)

cells_plain : (n : ℕ) (cells : List Cell) → AllByRecursion (IsCell n) cells → AllPlain (map cell_words cells)
cells_plain n [] all = tt
cells_plain n (c ∷ cells) (is, all) =
    let cost = is.cost in ((hex_plain c.mask, (decimal_plain c.cost (omega arith), tt)), tt, cells_plain n cells all)

-- a text that its first lines make up has nothing after them
nothing_behind : (count : ℕ) (text : List ℕ) → with_feeds (take count (whole_lines text)) ≡ text → trailing count text ≡ []
unfolding trailing
nothing_behind count text whole = let test : nat_lt (length text) (length text) ≡ false = grind arith in rw whole (rw test refl)

-- a certificate of its parts
abbrev pub certificate_of : ℕ → ℕ → ℕ → List ℕ → List ℕ → ℕ → List Pair → List Cell → Certificate
certificate_of format inputs outputs order levels total pairs cells =
    record { format = format; inputs = inputs; outputs = outputs; order = order; levels = levels; total = total; pairs = pairs; cells = cells }

-- certificates with equal parts
pub by_parts : (f f' i i' o o' : ℕ) (r r' l l' : List ℕ) (t t' : ℕ) (p p' : List Pair) (c c' : List Cell) → f ≡ f' → i ≡ i' → o ≡ o' →
    r ≡ r' → l ≡ l' → t ≡ t' → p ≡ p' → c ≡ c' →
    certificate_of f i o r l t p c ≡ certificate_of f' i' o' r' l' t' p' c'
by_parts f f' i i' o o' r r' l l' t t' p p' c c' ef ei eo er el et ep ec = rw ef (rw ei (rw eo (rw er (rw el (rw et (rw ep (rw ec refl)))))))

-- the lines of pairs of a text that says its format and its number of inputs
abbrev IsFormat : ℕ → List Pair → Type 0
IsFormat format ps = ((format ≡ 1) × (ps ≡ [])) ⊎ (format ≡ 2)

module _ (format n : ℕ) (ps : List Pair) (cells : List Cell) (pre post ws : List (List (List ℕ))) (some : 1 ≤ n) (few : n ≤ 16) (six_long : length pre ≡ 6)
    (parts : ws ≡ pre ++ (pair_lines format ps ++ (section (codes "cells") (map cell_words cells) ++ post)))
    (format_said : number_said ws 0 ≡ format) (number : inputs_said ws ≡ n) (known : IsFormat format ps)
    (pair_count : length ps ≤ most_pairs) (pairs : AllByRecursion (IsPair n) ps) (pairs_rise : AllPairs (λ (p q : Pair). pair_key p < pair_key q) ps)
    (cell_count : length cells ≤ 2 ^ n - 1) (listed : AllByRecursion (IsCell n) cells) (cells_rise : AllPairs (λ (a b : Cell). a.mask < b.mask) cells) where
  abbrev after_pairs : List (List (List ℕ))
  after_pairs = section (codes "cells") (map cell_words cells) ++ post

  two_parts : format ≡ 2 → pre ++ (section (codes "pairs") (map pair_words ps) ++ after_pairs) ≡ ws
  two_parts two = sym (let p = parts in rw two at p)

  abbrev PairsPass : ℕ → List (List (List ℕ)) → ℕ → Type 0
  PairsPass k lines at = Pass (section_judges (codes "pairs") most_pairs (is_pair k) pair_key_of lines at) (section (codes "pairs") (map pair_words ps))

  abbrev CellsPass : ℕ → List (List (List ℕ)) → ℕ → Type 0
  CellsPass k lines at = Pass (section_judges (codes "cells") (2 ^ k - 1) (is_cell k) cell_key_of lines at) (section (codes "cells") (map cell_words cells))

  pub pairs_pass : Pass (pairs_judges ws) (pair_lines format ps)
  pairs_pass = by known where
    by : IsFormat format ps → Pass (pairs_judges ws) (pair_lines format ps)
    by (inl (one, none)) = rw (format_said ∙ one) (rw one refl)
    by (inr two) =
        let s : PairsPass n (pre ++ (section (codes "pairs") (map pair_words ps) ++ after_pairs)) (length pre) =
        section_passes pair_words read_pair pair_key (IsPair n) (is_pair n) pair_key_of (pair_kind n some few) (codes "pairs") most_pairs
        (lit< tt) pre after_pairs ps pair_count pairs pairs_rise in
        grind arith

  pub pairs_back : cond (nat_eq (number_said ws 0) 1) [] (section_said read_pair ws 6) ≡ ps
  pairs_back = by known where
    by : IsFormat format ps → cond (nat_eq (number_said ws 0) 1) [] (section_said read_pair ws 6) ≡ ps
    by (inl (one, none)) = rw (format_said ∙ one) (sym none)
    by (inr two) =
        let s = section_back pair_words read_pair pair_key (IsPair n) (is_pair n) pair_key_of (pair_kind n some few) (codes "pairs")
        most_pairs (lit< tt) pre after_pairs ps pair_count pairs in
        let t = rw six_long at s in rw (format_said ∙ two) (rw (two_parts two) at t)

  cells_parts : (pre ++ pair_lines format ps) ++ (section (codes "cells") (map cell_words cells) ++ post) ≡ ws
  cells_parts = append_assoc pre (pair_lines format ps) (section (codes "cells") (map cell_words cells) ++ post) ∙ sym parts

  place : length (pre ++ pair_lines format ps) ≡ 6 + length (pairs_judges ws)
  place = grind (arith, length-append, pass_length, pairs_pass)

  most_small : 2 ^ n - 1 < 2 ^ 64
  most_small = let top = power_small n few in omega arith

  pub cells_pass : Pass (cells_judges ws (6 + length (pairs_judges ws))) (section (codes "cells") (map cell_words cells))
  cells_pass =
      let before = pre ++ pair_lines format ps in
      let s : CellsPass n (before ++ (section (codes "cells") (map cell_words cells) ++ post)) (length before) =
      search (section_passes, cell_kind, most_small) in
      grind (arith, cells_parts, place)

  pub cells_back : section_said read_cell ws (cells_place ws) ≡ cells
  cells_back =
      let s = section_back cell_words read_cell mask_key (IsCell n) (is_cell n) cell_key_of (cell_kind n few) (codes "cells") (2 ^ n - 1)
      most_small (pre ++ pair_lines format ps) post cells cell_count listed in
      let t = rw place at s in rw cells_parts at t

module _ (cert : Certificate) (has : HasSpelling cert) where
  -- the first six lines
  abbrev six : List (List (List ℕ))
  six = head_lines cert

  abbrev pairs_here : List (List (List ℕ))
  pairs_here = pair_lines cert.format cert.pairs

  abbrev cells_here : List (List (List ℕ))
  cells_here = section (codes "cells") (map cell_words cert.cells)

  abbrev last : List (List (List ℕ))
  last = (codes "end" ∷ []) ∷ []

  lines_are : word_lines cert ≡ six ++ (pairs_here ++ (cells_here ++ last))
  lines_are = unfold word_lines in refl

  is_few : cert.inputs ≤ 16
  is_few = has.inputs.1

  all_pairs : AllByRecursion (IsPair cert.inputs) cert.pairs
  all_pairs = recursion_from_All _ cert.pairs has.pairs

  all_cells : AllByRecursion (IsCell cert.inputs) cert.cells
  all_cells = recursion_from_All _ cert.cells has.cells

  few_cells : length cert.cells < 65536
  few_cells = let count = has.cell_count in let top = power_small cert.inputs is_few in omega arith

  format_small : cert.format < 2 ^ 64
  format_small = grind arith

  section_plain : (name : List ℕ) (entries : List (List (List ℕ))) → length entries < 2 ^ 64 → ArePlain (name ∷ []) → AllPlain entries →
      AllPlain (section name entries)
  section_plain name entries few (plain, rest) all = ((plain, (decimal_plain (length entries) few, tt)), tt, all)

  pairs_are_plain : AllPlain pairs_here
  pairs_are_plain = grind (arith, section_plain, length-map, pairs_plain, all_pairs)

  one_plain : (name : List ℕ) (k : ℕ) → ArePlain (name ∷ []) → k < 2 ^ 64 → ArePlain (field name (k ∷ []))
  one_plain name k (plain, rest) few = (plain, (decimal_plain k few, tt))

  six_plain : AllPlain six
  six_plain =
      let inputs = has.inputs in let outputs = has.outputs in let total = has.total in (
        one_plain (codes "bddorder-certificate") cert.format (list_word (codes "bddorder-certificate") refl, tt) format_small,
        tt,
        (
          one_plain (codes "inputs") cert.inputs (list_word (codes "inputs") refl, tt) (omega arith),
          tt,
          (
            one_plain (codes "outputs") cert.outputs (list_word (codes "outputs") refl, tt) (omega arith),
            tt,
            (
              (list_word (codes "order") refl, decimals_plain cert.order (small 0 15 cert.order (lit< tt) (recursion_from_All _ cert.order has.order.1))),
              tt,
              (
                (
                  list_word (codes "levels") refl,
                  decimals_plain cert.levels (small 0 most_nodes cert.levels (lit< tt) (recursion_from_All _ cert.levels has.levels.1)),
                ),
                tt,
                (
                  one_plain (codes "total") cert.total (list_word (codes "total") refl, tt) (omega arith),
                  tt,
                  tt,
                ),
              ),
            ),
          ),
        ),
      )

  all_plain : AllPlain (word_lines cert)
  all_plain =
      rw lines_are (plain_append six (pairs_here ++ (cells_here ++ last)) six_plain
      (plain_append pairs_here (cells_here ++ last) pairs_are_plain
      (plain_append cells_here last
      (section_plain (codes "cells") (map cell_words cert.cells) (omega (arith, few_cells, length-map cert.cells cell_words))
      (list_word (codes "cells") refl, tt) (cells_plain cert.inputs cert.cells all_cells))
      ((list_word (codes "end") refl, tt), tt, tt))))

  pub spelling_said : said (spelling cert) ≡ word_lines cert
  spelling_said = unfold spelling in said_back (word_lines cert) all_plain

  inputs_are : inputs_said (word_lines cert) ≡ cert.inputs
  inputs_are = rw lines_are (decimal_back cert.inputs (omega arith))

  format_is : number_said (word_lines cert) 0 ≡ cert.format
  format_is = rw lines_are (decimal_back cert.format format_small)

  parts : word_lines cert ≡ six ++ (pair_lines cert.format cert.pairs ++ (section (codes "cells") (map cell_words cert.cells) ++ last))
  parts = lines_are

  pairs_pass_here : Pass (pairs_judges (word_lines cert)) (pair_lines cert.format cert.pairs)
  pairs_pass_here = search (pairs_pass, parts, format_is, inputs_are, all_pairs, all_cells)

  pairs_are_back : (cert_of (word_lines cert)).pairs ≡ cert.pairs
  pairs_are_back = search (pairs_back, parts, format_is, inputs_are, all_pairs, all_cells)

  cells_pass_here : Pass (cells_judges (word_lines cert) (cells_place (word_lines cert))) (section (codes "cells") (map cell_words cert.cells))
  cells_pass_here = search (cells_pass, parts, format_is, inputs_are, all_pairs, all_cells)

  cells_are_back : (cert_of (word_lines cert)).cells ≡ cert.cells
  cells_are_back = search (cells_back, parts, format_is, inputs_are, all_pairs, all_cells)

  title_passes : title_fault (field (codes "bddorder-certificate") (cert.format ∷ [])) ≡ None
  title_passes = by cert.format has.format where
    by : (format : ℕ) → ((format ≡ 1) × (cert.pairs ≡ [])) ⊎ (format ≡ 2) → title_fault (field (codes "bddorder-certificate") (format ∷ [])) ≡ None
    by format (inl (one, none)) = unfold digits in rw one refl
    by format (inr two) = unfold digits in rw two refl

  six_pass : Pass (head_judges cert.inputs) six
  six_pass = search (title_passes, field_passes, lit<, from_zero, recursion_from_All)

  -- each line passes
  all_pass : Pass (judges (word_lines cert)) (word_lines cert)
  all_pass =
      let ws = word_lines cert in
      let asked : head_judges (inputs_said ws)
      ++ (pairs_judges ws ++ (cells_judges ws (cells_place ws) ++ fixed_fault (codes "end" ∷ []) ∷ [])) ≡ judges ws =
      unfold judges in refl in
      grind (arith, inputs_are, six_pass, pass_append, cells_pass_here, pairs_pass_here, parts)

  -- the lines of a spelling, each with its line feed, are the spelling
  feeds_back : (lines : List (List (List ℕ))) → with_feeds (map (join_with_byte 32) lines) ≡ flat_map text_line lines
  feeds_back [] = refl
  feeds_back (ws ∷ lines) = rw (feeds_back lines) (unfold text_line in refl)

  whole_are : whole_lines (spelling cert) ≡ map (join_with_byte 32) (word_lines cert)
  whole_are = unfold spelling in lines_back (word_lines cert) all_plain

  spelling_is : flat_map text_line (word_lines cert) ≡ spelling cert
  spelling_is = unfold spelling in refl

  nothing_trails : trailing (length (judges (word_lines cert))) (spelling cert) ≡ []
  nothing_trails = grind (arith, pass_length, all_pass, length-map, nothing_behind, whole_are, take_all, feeds_back, spelling_is)

  pub no_fault : faults (spelling cert) ≡ []
  no_fault = unfold faults in rw spelling_said (rw (pass_none 1 (judges (word_lines cert)) (word_lines cert) all_pass) nothing_trails)

  -- the certificate that a spelling says
  pub spelling_says : cert_of (said (spelling cert)) ≡ cert
  spelling_says = rw spelling_said same where
    order_back : numbers_of (field (codes "order") cert.order) ≡ cert.order
    order_back = decimals_back cert.order (small 0 15 cert.order (lit< tt) (recursion_from_All _ cert.order has.order.1))

    levels_back : numbers_of (field (codes "levels") cert.levels) ≡ cert.levels
    levels_back = decimals_back cert.levels (small 0 most_nodes cert.levels (lit< tt) (recursion_from_All _ cert.levels has.levels.1))

    outputs_back : number_said (word_lines cert) 2 ≡ cert.outputs
    outputs_back = let outputs = has.outputs in rw lines_are (decimal_back cert.outputs (omega arith))

    total_back : number_said (word_lines cert) 5 ≡ cert.total
    total_back = let total = has.total in rw lines_are (decimal_back cert.total (omega arith))

    orders : numbers_of (get_or (word_lines cert) 3 []) ≡ cert.order
    orders = rw lines_are order_back

    leveled : numbers_of (get_or (word_lines cert) 4 []) ≡ cert.levels
    leveled = rw lines_are levels_back

    same : cert_of (word_lines cert) ≡ cert
    same = by_parts _ _ _ _ _ _ _ _ _ _ _ _ _ _ _ _ format_is inputs_are outputs_back orders leveled total_back pairs_are_back cells_are_back

pub one_form : (a b : Certificate) → HasSpelling a → HasSpelling b → spelling a ≡ spelling b → a ≡ b
one_form a b first second same = sym (spelling_says a first) ∙ ap (λ text. cert_of (said text)) same ∙ spelling_says b second
