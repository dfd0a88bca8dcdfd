-- A text without a fault is the spelling of the certificate that it says.
use Rattle.std.proofs.Common.{◌≡◌, ℕ, ◌+◌, ◌-◌, ◌^◌, ◌≤◌, ◌<◌, refl, sym, ◌∙◌, ap, subst, Bool, true, false, cond, ◌==◌, inl, inr, ◌⊎◌, List, [], ◌∷◌, ◌++◌, length, map, take, drop, get_or, codes, Option, None, Some, arith, lit<}
use Rattle.std.specs.List.{AllByRecursion, AllPairs, flat_map}
use Rattle.std.specs.Fmt.{digits}
use Rattle.std.proofs.lemmas.List.{length-map, length-take, length-append, append-nil, nil_from_length, take-append-drop}
use Rattle.std.proofs.lemmas.List.Elements.{All-from_recursion}
use Rattle.std.proofs.lemmas.List.Splits.{join_with_byte-slice_split}
use mathlib.Core.List.{append_assoc}
use Rattle.definitions.specs.Pairs.{Pair}
use Rattle.definitions.specs.Certificates.{Certificate, Cell}
use Rattle.certificate.specs.declared.faults.LineFault.{LineFault}
use Rattle.certificate.specs.Spelling.{most_nodes, most_pairs, field, section, pair_words, pair_lines, cell_words, pair_key, IsPair, IsCell, word_lines, text_line, spelling, HasSpelling}
use Rattle.definitions.specs.Texts.{number_of}
use Rattle.certificate.specs.Faults.{whole_lines, onto_line, words, said, number_said, inputs_said, is_pair, is_cell, pair_key_of, cell_key_of, title_fault, fixed_fault, section_judges, pairs_judges, cells_judges, judges, LineTest, numbered, line_faults, with_feeds, trailing, faults, Spells, FirstCertFault}
use Rattle.certificate.proofs.WordLines.{decimal_back}
use Rattle.certificate.proofs.LineTests.{Pass, pass_length, all_same_is, IsFrom, field_is, one_number}
use Rattle.certificate.proofs.Spellings.{no_fault}
use Rattle.certificate.specs.Decoded.{read_pair, read_cell, mask_key, cells_place, cert_of}
use Rattle.certificate.proofs.CertificateLines.{pair_kind, cell_kind, section_is}
use Rattle.definitions.proofs.Bits.Masks.{power_small}

-- lines without a fault pass
none_pass : (number : ℕ) (js : List LineTest) (ws : List (List (List ℕ))) → line_faults number js ws ≡ [] →
    (vs : List (List (List ℕ))) × (us : List (List (List ℕ))) × (ws ≡ vs ++ us) × Pass js vs
unfolding line_faults
none_pass number [] ws none = ([], ws, refl, refl)
none_pass number (j ∷ js) [] none = absurd (cc none)
none_pass number (j ∷ js) (line ∷ ws) none = by (j line) refl none (none_pass (number + 1) js ws) where
  by : (f : Option LineFault) → j line ≡ f → numbered number f ++ line_faults (number + 1) js ws ≡ [] →
      (line_faults (number + 1) js ws ≡ [] → (vs : List (List (List ℕ))) × (us : List (List (List ℕ))) × (ws ≡ vs ++ us) × Pass js vs) →
      (vs : List (List (List ℕ))) × (us : List (List (List ℕ))) × (line ∷ ws ≡ vs ++ us) × Pass (j ∷ js) vs
  by None is rest others = let more = others rest in (line ∷ more.0, more.1, ap (λ xs. line ∷ xs) more.2, (is, more.3))
  by (Some fault) is rest others = absurd (cc rest)

-- the text of its whole lines, and what follows the last of them
behind_lines : (text : List ℕ) → (rest : List ℕ) × (text ≡ with_feeds (whole_lines text) ++ rest)
unfolding whole_lines
behind_lines [] = ([], refl)
behind_lines (b ∷ text) = by (b == 10) refl (behind_lines text) where
  by : (t : Bool) → (b == 10) ≡ t → (rest : List ℕ) × (text ≡ with_feeds (whole_lines text) ++ rest) →
      (rest : List ℕ) × (b ∷ text ≡ with_feeds (cond (b == 10) ([] ∷ whole_lines text) (onto_line b (whole_lines text))) ++ rest)
  by true is (rest, e) = (rest, rw is (let feed : b ≡ 10 = grind arith in rw feed (ap (λ xs. 10 ∷ xs) e)))
  by false is (rest, e) = onto (whole_lines text) refl where
    onto : (lines : List (List ℕ)) → whole_lines text ≡ lines →
        (rest : List ℕ) × (b ∷ text ≡ with_feeds (cond (b == 10) ([] ∷ whole_lines text) (onto_line b (whole_lines text))) ++ rest)
    onto [] none = (b ∷ text, rw is (rw none refl))
    onto (line ∷ lines) some = (rest, rw is (rw some (ap (λ xs. b ∷ xs) (e ∙ ap (λ ls. with_feeds ls ++ rest) some))))

-- lines with their feeds, one after another
feeds_append : (xs ys : List (List ℕ)) → with_feeds (xs ++ ys) ≡ with_feeds xs ++ with_feeds ys
feeds_append [] ys = refl
feeds_append (x ∷ xs) ys = ap (λ more. (x ++ 10 ∷ []) ++ more) (feeds_append xs ys) ∙ sym (append_assoc (x ++ 10 ∷ []) (with_feeds xs) (with_feeds ys))

-- where nothing follows the first lines, these are all
none_behind : (count : ℕ) (text : List ℕ) → trailing count text ≡ [] → length text ≤ length (with_feeds (take count (whole_lines text)))
unfolding trailing
none_behind count text none = grind arith

no_more : (line : List ℕ) (lines : List (List ℕ)) → 0 < length (with_feeds (line ∷ lines))
no_more line lines = omega (arith, length-append (line ++ 10 ∷ []) (with_feeds lines), length-append line (10 ∷ []))

enough_lines : (count : ℕ) (text : List ℕ) → take count (whole_lines text) ≡ whole_lines text → length (said text) ≤ count
enough_lines count text all = omega (arith, length-map (whole_lines text) words, ap length all, length-take count (whole_lines text))

joined_back : (lines : List (List ℕ)) → flat_map text_line (map words lines) ≡ with_feeds lines
unfolding text_line words
joined_back [] = refl
joined_back (line ∷ lines) = rw (join_with_byte-slice_split 32 line) (rw (joined_back lines) refl)

all_are_taken : (count : ℕ) (text : List ℕ) → trailing count text ≡ [] →
    (take count (whole_lines text) ≡ whole_lines text) × (text ≡ flat_map text_line (said text))
all_are_taken count text none =
    let b = behind_lines text in let lines = whole_lines text in
    let split : take count lines ++ drop count lines ≡ lines = take-append-drop count lines in
    let parts : text ≡ (with_feeds (take count lines) ++ with_feeds (drop count lines)) ++ b.0 = grind (arith, feeds_append) in
    let sizes : length text ≡ (length (with_feeds (take count lines)) + length (with_feeds (drop count lines))) + length b.0 =
    grind (arith, length-append) in
    let bound = none_behind count text none in
    let no_lines : drop count lines ≡ [] = empty_lines (drop count lines) (omega arith) in
    let no_rest : b.0 ≡ [] = nil_from_length b.0 (omega arith) in grind (arith, append-nil, joined_back) where
      empty_lines : (ls : List (List ℕ)) → length (with_feeds ls) ≡ 0 → ls ≡ []
      empty_lines [] e = refl
      empty_lines (l ∷ ls) e = absurd (omega (arith, no_more l ls))

-- a pass in parts
pass_split : (js ks : List LineTest) (ws : List (List (List ℕ))) → Pass (js ++ ks) ws →
    (vs : List (List (List ℕ))) × (us : List (List (List ℕ))) × (ws ≡ vs ++ us) × Pass js vs × Pass ks us
pass_split [] ks ws pass = ([], ws, refl, refl, pass)
pass_split (j ∷ js) ks [] pass = elim pass [ ]
pass_split (j ∷ js) ks (line ∷ ws) (here, pass) = let more = pass_split js ks ws pass in
    (line ∷ more.0, more.1, ap (λ xs. line ∷ xs) more.2, (here, more.3), more.4)

-- the first line says format 1 or 2
title_is : (line : List (List ℕ)) → title_fault line ≡ None →
    (line ≡ field (codes "bddorder-certificate") (1 ∷ [])) ⊎ (line ≡ field (codes "bddorder-certificate") (2 ∷ []))
unfolding digits
title_is line none = grind (arith, all_same_is)

-- a line of fixed words
fixed_is : (wanted line : List (List ℕ)) → fixed_fault wanted line ≡ None → line ≡ wanted
fixed_is wanted line none = grind (arith, all_same_is)

-- what pairs a text says
record PairsSaid (n : ℕ) (ws vs : List (List (List ℕ))) : Type 0 where
  lines_are : pair_lines (number_said ws 0) ((cert_of ws).pairs) ≡ vs
  format : ((number_said ws 0 ≡ 1) × ((cert_of ws).pairs ≡ [])) ⊎ (number_said ws 0 ≡ 2)
  few : length (cert_of ws).pairs ≤ most_pairs
  all : AllByRecursion (IsPair n) (cert_of ws).pairs
  rise : AllPairs (λ (p q : Pair). pair_key p < pair_key q) (cert_of ws).pairs

pairs_said : (n : ℕ) (pre vs post ws : List (List (List ℕ))) → 1 ≤ n → n ≤ 16 → length pre ≡ 6 → ws ≡ pre ++ (vs ++ post) → inputs_said ws ≡ n →
    (number_said ws 0 ≡ 1) ⊎ (number_said ws 0 ≡ 2) → Pass (pairs_judges ws) vs → PairsSaid n ws vs
pairs_said n pre vs post ws some few six parts number (inl one) pass = grind arith
pairs_said n pre vs post ws some few six parts number (inr two) pass =
    let known = subst (λ k. Pass (section_judges (codes "pairs") most_pairs (is_pair k) pair_key_of ws 6) vs) number (rw two at pass) in
    let placed = subst (λ at. Pass (section_judges (codes "pairs") most_pairs (is_pair n) pair_key_of ws at) vs) (sym six) known in
    let moved = subst (λ lines. Pass (section_judges (codes "pairs") most_pairs (is_pair n) pair_key_of lines (length pre)) vs) parts placed in
    let is = section_is pair_words read_pair pair_key (IsPair n) (is_pair n) pair_key_of (pair_kind n some few) (codes "pairs") most_pairs
    (lit< tt) pre post vs moved in
    grind arith

-- what listed sets a text says
record CellsSaid (n : ℕ) (ws cs : List (List (List ℕ))) : Type 0 where
  lines_are : section (codes "cells") (map cell_words (cert_of ws).cells) ≡ cs
  few : length (cert_of ws).cells ≤ 2 ^ n - 1
  all : AllByRecursion (IsCell n) (cert_of ws).cells
  rise : AllPairs (λ (a b : Cell). a.mask < b.mask) (cert_of ws).cells

cells_said : (n : ℕ) (pre vs cs post ws : List (List (List ℕ))) → n ≤ 16 → length pre ≡ 6 → ws ≡ pre ++ (vs ++ (cs ++ post)) → inputs_said ws ≡ n →
    Pass (pairs_judges ws) vs → Pass (cells_judges ws (cells_place ws)) cs → CellsSaid n ws cs
cells_said n pre vs cs post ws few six parts number pairs pass =
    let front = pre ++ vs in
    let place : cells_place ws ≡ length front = grind (arith, pass_length, length-append) in
    let apart : ws ≡ front ++ (cs ++ post) = parts ∙ sym (append_assoc pre vs (cs ++ post)) in
    let most_small : 2 ^ n - 1 < 2 ^ 64 = let top = power_small n few in omega arith in
    let known = subst (λ k. Pass (section_judges (codes "cells") (2 ^ k - 1) (is_cell k) cell_key_of ws (cells_place ws)) cs) number pass in
    let placed = subst (λ at. Pass (section_judges (codes "cells") (2 ^ n - 1) (is_cell n) cell_key_of ws at) cs) place known in
    let moved = subst (λ lines. Pass (section_judges (codes "cells") (2 ^ n - 1) (is_cell n) cell_key_of lines (length front)) cs) apart placed in
    let is = section_is cell_words read_cell mask_key (IsCell n) (is_cell n) cell_key_of (cell_kind n few) (codes "cells") (2 ^ n - 1)
    most_small front post cs moved in
    grind arith

end_is : (last : List (List (List ℕ))) → Pass (fixed_fault (codes "end" ∷ []) ∷ []) last → last ≡ (codes "end" ∷ []) ∷ []
end_is [] pass = elim pass [ ]
end_is (line ∷ more) (here, none) = rw (fixed_is (codes "end" ∷ []) line here) (ap (λ xs. (codes "end" ∷ []) ∷ xs) none)

-- the number in the first line
pub format_of : (t : List (List ℕ)) → title_fault t ≡ None → (number_of (get_or t 1 []) ≡ 1) ⊎ (number_of (get_or t 1 []) ≡ 2)
format_of t title = grind (arith, title_is, decimal_back)

title_back : (t : List (List ℕ)) → title_fault t ≡ None → field (codes "bddorder-certificate") (number_of (get_or t 1 []) ∷ []) ≡ t
title_back t title = grind (arith, title_is, decimal_back)

no_least : (most : ℕ) (ns : List ℕ) → AllByRecursion (IsFrom 0 most) ns → AllByRecursion (λ x. x ≤ most) ns
no_least most [] all = tt
no_least most (n ∷ ns) (here, all) = (here.1, no_least most ns all)

-- the lines of a certificate, line by line
by_lines : (cert : Certificate) (t i o r l s : List (List ℕ)) (rest vs cs last : List (List (List ℕ))) →
    field (codes "bddorder-certificate") (cert.format ∷ []) ≡ t → field (codes "inputs") (cert.inputs ∷ []) ≡ i →
    field (codes "outputs") (cert.outputs ∷ []) ≡ o →
    field (codes "order") cert.order ≡ r → field (codes "levels") cert.levels ≡ l → field (codes "total") (cert.total ∷ []) ≡ s →
    pair_lines cert.format cert.pairs ≡ vs → section (codes "cells") (map cell_words cert.cells) ≡ cs → last ≡ (codes "end" ∷ []) ∷ [] →
    rest ≡ vs ++ (cs ++ last) →
    word_lines cert ≡ t ∷ i ∷ o ∷ r ∷ l ∷ s ∷ rest
unfolding word_lines
by_lines cert t i o r l s rest vs cs last et ei eo er el es ev ec end whole = grind arith

-- what lines that pass say
record LinesSaid (ws : List (List (List ℕ))) : Type 0 where
  has : HasSpelling (cert_of ws)
  lines_are : word_lines (cert_of ws) ≡ ws

lines_said : (ws : List (List (List ℕ))) → Pass (judges ws) ws → LinesSaid ws
unfolding judges
lines_said [] pass = elim pass [ ]
lines_said (t ∷ []) (title, pass) = elim pass [ ]
lines_said (t ∷ i ∷ []) (title, (inputs, pass)) = elim pass [ ]
lines_said (t ∷ i ∷ o ∷ []) (title, (inputs, (outputs, pass))) = elim pass [ ]
lines_said (t ∷ i ∷ o ∷ r ∷ []) (title, (inputs, (outputs, (order, pass)))) = elim pass [ ]
lines_said (t ∷ i ∷ o ∷ r ∷ l ∷ []) (title, (inputs, (outputs, (order, (levels, pass))))) = elim pass [ ]
lines_said (t ∷ i ∷ o ∷ r ∷ l ∷ s ∷ rest) (title, (inputs, (outputs, (order, (levels, (total, pass)))))) =
    let ws = t ∷ i ∷ o ∷ r ∷ l ∷ s ∷ rest in let n = inputs_said ws in let six = t ∷ i ∷ o ∷ r ∷ l ∷ s ∷ [] in
    let input_line = one_number (codes "inputs") 1 16 i (field_is (codes "inputs") 1 1 16 i inputs) in
    let output_line = one_number (codes "outputs") 1 16 o (field_is (codes "outputs") 1 1 16 o outputs) in
    let order_line = field_is (codes "order") n 0 15 r order in
    let level_line = field_is (codes "levels") n 0 most_nodes l levels in
    let total_line = one_number (codes "total") 0 most_nodes s (field_is (codes "total") 1 0 most_nodes s total) in
    let some : 1 ≤ n = input_line.1.0 in let few : n ≤ 16 = input_line.1.1 in
    let parts = pass_split (pairs_judges ws) (cells_judges ws (cells_place ws) ++ fixed_fault (codes "end" ∷ []) ∷ []) rest pass in
    let vs = parts.0 in
    let ends = pass_split (cells_judges ws (cells_place ws)) (fixed_fault (codes "end" ∷ []) ∷ []) parts.1 parts.4 in
    let cs = ends.0 in let last = ends.1 in
    let whole : rest ≡ vs ++ (cs ++ last) = parts.2 ∙ ap (λ xs. vs ++ xs) ends.2 in
    let said = pairs_said n six vs (cs ++ last) ws some few refl (ap (λ xs. six ++ xs) whole) refl (format_of t title) parts.3 in
    let cells = cells_said n six vs cs last ws few refl (ap (λ xs. six ++ xs) whole) refl parts.3 ends.3 in
    let end = end_is last ends.4 in
    record {
      has = record {
        format = said.format;
        inputs = input_line.1;
        outputs = output_line.1;
        order = (order_line.many, All-from_recursion _ _ (no_least 15 _ order_line.bounds));
        levels = (level_line.many, All-from_recursion _ _ (no_least most_nodes _ level_line.bounds));
        total = total_line.1.1;
        pair_count = said.few;
        pairs = All-from_recursion _ _ said.all;
        pairs_rise = said.rise;
        cell_count = cells.few;
        cells = All-from_recursion _ _ cells.all;
        cells_rise = cells.rise;
      };
      lines_are = search (by_lines, title_back);
    }

-- a text without a fault
pub record Faultless (text : List ℕ) : Type 0 where
  pub has : HasSpelling (cert_of (said text))
  pub text_is : text ≡ spelling (cert_of (said text))

pub faultless : (text : List ℕ) → faults text ≡ [] → Faultless text
unfolding faults spelling
faultless text none =
    let ws = said text in let js = judges ws in
    let two = both_empty (line_faults 1 js ws) (trailing (length js) text) none in
    let all = all_are_taken (length js) text two.1 in
    grind (arith, none_pass, length-append, enough_lines, pass_length, lines_said, append-nil) where
      both_empty : (xs ys : List (ℕ × LineFault)) → xs ++ ys ≡ [] → (xs ≡ []) × (ys ≡ [])
      both_empty [] ys e = (refl, e)
      both_empty (x ∷ xs) ys e = absurd (cc e)

pub spelled_or_faulty : (text : List ℕ) → ((cert : Certificate) × Spells text cert) ⊎ ((line : ℕ) × (fault : LineFault) × FirstCertFault text line fault)
spelled_or_faulty text = by (faults text) refl where
  by : (fs : List (ℕ × LineFault)) → faults text ≡ fs →
      ((cert : Certificate) × Spells text cert) ⊎ ((line : ℕ) × (fault : LineFault) × FirstCertFault text line fault)
  by [] none = let f = faultless text none in inl (cert_of (said text), record { has = f.has; text_is = f.text_is })
  by ((line, fault) ∷ others) some = inr (line, fault, record { others = others; first = some })

-- and not both
pub spelled_not_faulty : (text : List ℕ) (cert : Certificate) (line : ℕ) (fault : LineFault) → Spells text cert → FirstCertFault text line fault → ⊥
spelled_not_faulty text cert line fault spells first = grind (arith, no_fault)

pub one_first_fault : (text : List ℕ) (i j : ℕ) (e f : LineFault) → FirstCertFault text i e → FirstCertFault text j f → (i ≡ j) × (e ≡ f)
one_first_fault text i j e f a b = grind arith
