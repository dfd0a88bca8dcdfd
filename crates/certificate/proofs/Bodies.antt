-- The lines after the first six, to the end of a text.
use Rattle.std.proofs.Common.{◌≡◌, ℕ, ◌+◌, ◌-◌, ◌^◌, refl, sym, ◌∙◌, ap, subst, inl, inr, ◌⊎◌, List, [], ◌∷◌, ◌++◌, length, map, codes, Option, Some, Result, Ok, Err, append_assoc, Vec, Global}
use Rattle.std.specs.Result.{IsErrAnd}
use Rattle.std.proofs.lemmas.List.{length-append}
use Rattle.definitions.specs.Pairs.{Pair}
use Rattle.definitions.specs.Listed.{listed}
use Rattle.definitions.specs.declared.listed_cells.ListedCell.{ListedCell}
use Rattle.certificate.specs.declared.faults.CertFault.{CertFault}
use Rattle.certificate.specs.Spelling.{most_pairs}
use Rattle.certificate.specs.Faults.{LineTest, said, number_said, inputs_said, is_pair, is_cell, pair_key_of, cell_key_of, section_judges, pairs_judges, cells_judges, fixed_fault}
use Rattle.certificate.specs.Decoded.{read_pair, read_cell, section_said, cells_place, cert_of}
use Rattle.certificate.specs.Values.{format_of}
use Rattle.certificate.specs.Parsing.{FailsFirst, TakesSection, outcome}
use Rattle.certificate.specs.Heads.{TakesSets, TakesBody, body_judges}

abbrev last : List LineTest
last = fixed_fault (codes "end" ∷ []) ∷ []

module _ (n number : ℕ) (text : List ℕ) (pre : List (List (List ℕ))) (known : inputs_said (pre ++ said text) ≡ n) where
  -- what is asked of listed sets, by the number of lines before them
  cells_asked : length pre ≡ cells_place (pre ++ said text) →
      section_judges (codes "cells") (2 ^ n - 1) (is_cell n) cell_key_of (pre ++ said text) (length pre) ≡ cells_judges (pre ++ said text)
      (cells_place (pre ++ said text))
  cells_asked place = search codes

  -- and of pairs, in format 2
  pairs_asked : length pre ≡ 6 → number_said (pre ++ said text) 0 ≡ 2 →
      section_judges (codes "pairs") most_pairs (is_pair n) pair_key_of (pre ++ said text) (length pre) ≡ pairs_judges (pre ++ said text)
  pairs_asked six two = search codes

-- listed sets, and the end
pub sets_fail : (n number : ℕ) (text : List ℕ) (after : ℕ) (rest : List ℕ) (fault : CertFault)
    (result : Result (Vec ListedCell Global) CertFault) →
    IsErrAnd result (λ e. e ≡ fault) →
    TakesSection {V = Vec ListedCell Global} (codes "cells") (2 ^ n - 1) (is_cell n) cell_key_of read_cell (λ v. map listed v.items) number
    text after rest (Err fault) →
    TakesSets n number text result
sets_fail n number text after rest fault (Ok v) is takes = elim is [ ]
sets_fail n number text after rest fault (Err e) is takes =
    rw is (λ pre place known. subst (λ js. FailsFirst (outcome number (js ++ last) text) fault) (cells_asked n number text pre known place) (takes pre last))

pub end_fails : (n number : ℕ) (text : List ℕ) (cells : Vec ListedCell Global) (after : ℕ) (rest : List ℕ) (fault : CertFault)
    (result : Result (Vec ListedCell Global) CertFault) →
    IsErrAnd result (λ e. e ≡ fault) →
    TakesSection (codes "cells") (2 ^ n - 1) (is_cell n) cell_key_of read_cell (λ (v : Vec ListedCell Global). map listed v.items) number
    text after rest (Ok cells) →
    FailsFirst (outcome after last rest) fault → TakesSets n number text result
end_fails n number text cells after rest fault (Ok v) is takes fails = elim is [ ]
end_fails n number text cells after rest fault (Err e) is takes fails =
    rw is (λ pre place known. subst (λ js. FailsFirst (outcome number (js ++ last) text) fault) (cells_asked n number text pre known place)
    (subst (λ faults. FailsFirst faults fault) (sym ((takes pre).0 last)) fails))

pub sets_told : (n number : ℕ) (text : List ℕ) (cells : Vec ListedCell Global) (after : ℕ) (rest : List ℕ) →
    TakesSection (codes "cells") (2 ^ n - 1) (is_cell n) cell_key_of read_cell (λ (v : Vec ListedCell Global). map listed v.items) number
    text after rest (Ok cells) →
    outcome after last rest ≡ [] → TakesSets n number text (Ok cells)
sets_told n number text cells after rest takes ended pre place known = (
  ap (λ js. outcome number (js ++ last) text) (sym (cells_asked n number text pre known place)) ∙ (takes pre).0 last
      ∙ ended,
  (takes pre).4 ∙ ap (section_said read_cell (pre ++ said text)) place,
)

-- format 1: no pairs
module _ (format n number : ℕ) (text : List ℕ) (pre : List (List (List ℕ))) (six : length pre ≡ 6)
    (says : number_said (pre ++ said text) 0 ≡ format) (known : inputs_said (pre ++ said text) ≡ n) where
  no_pairs : format ≡ 1 → pairs_judges (pre ++ said text) ≡ []
  no_pairs one = rw (says ∙ one) refl

  place_first : format ≡ 1 → length pre ≡ cells_place (pre ++ said text)
  place_first one = six ∙ ap (λ (js : List LineTest). 6 + length js) (sym (no_pairs one))

pub first_fails : (format n number : ℕ) (text : List ℕ) (fault : CertFault)
    (result : Result (Option (Vec Pair Global) × Vec ListedCell Global) CertFault) →
    IsErrAnd result (λ e. e ≡ fault) → format ≡ 1 →
    TakesSets n number text (Err fault) → TakesBody format n number text result
first_fails format n number text fault (Ok v) is one takes = elim is [ ]
first_fails format n number text fault (Err e) is one takes =
    rw is (λ pre six says known. subst
    (λ js. FailsFirst (outcome number (js ++ (cells_judges (pre ++ said text) (cells_place (pre ++ said text)) ++ last)) text) fault)
    (sym (no_pairs format n number text pre six says known one))
    (takes pre (place_first format n number text pre six says known one) known))

-- format 2: pairs, and what stands after them
pub pairs_fail : (format n number : ℕ) (text : List ℕ) (after : ℕ) (rest : List ℕ) (fault : CertFault)
    (result : Result (Option (Vec Pair Global) × Vec ListedCell Global) CertFault) →
    IsErrAnd result (λ e. e ≡ fault) → format ≡ 2 →
    TakesSection {V = Vec Pair Global} (codes "pairs") most_pairs (is_pair n) pair_key_of read_pair (λ v. v.items) number text after rest
    (Err fault) →
    TakesBody format n number text result
pairs_fail format n number text after rest fault (Ok v) is two takes = elim is [ ]
pairs_fail format n number text after rest fault (Err e) is two takes =
    rw is (λ pre six says known. subst
    (λ js. FailsFirst (outcome number (js ++ (cells_judges (pre ++ said text) (cells_place (pre ++ said text)) ++ last)) text) fault)
    (pairs_asked n number text pre known six (says ∙ two))
    (takes pre (cells_judges (pre ++ said text) (cells_place (pre ++ said text)) ++ last)))

module _ (format n number : ℕ) (text : List ℕ) (after : ℕ) (rest : List ℕ) (pairs : Vec Pair Global) (two : format ≡ 2)
    (takes : TakesSection (codes "pairs") most_pairs (is_pair n) pair_key_of read_pair (λ (v : Vec Pair Global). v.items) number text after rest (Ok pairs))
    (pre : List (List (List ℕ))) (six : length pre ≡ 6) (says : number_said (pre ++ said text) 0 ≡ format) (known : inputs_said (pre ++ said text) ≡ n) where
  -- the lines up to listed sets
  abbrev front : List (List (List ℕ))
  front = pre ++ (takes pre).1

  whole : front ++ said rest ≡ pre ++ said text
  whole = append_assoc pre (takes pre).1 (said rest) ∙ ap (λ xs. pre ++ xs) (sym (takes pre).2)

  front_place : length front ≡ cells_place (pre ++ said text)
  front_place =
      length-append pre (takes pre).1 ∙ ap (λ k. k + length (takes pre).1) six
      ∙ ap (λ k. 6 + k) ((takes pre).3 ∙ ap length (pairs_asked n number text pre known six (says ∙ two)))

  place_here : length front ≡ cells_place (front ++ said rest)
  place_here = front_place ∙ ap cells_place (sym whole)

  known_here : inputs_said (front ++ said rest) ≡ n
  known_here = ap inputs_said whole ∙ known

  -- what is asked of them all
  asked : outcome number (body_judges (pre ++ said text)) text ≡ outcome after (cells_judges (pre ++ said text) (cells_place (pre ++ said text)) ++ last) rest
  asked =
      ap (λ js. outcome number (js ++ (cells_judges (pre ++ said text) (cells_place (pre ++ said text)) ++ last)) text)
      (sym (pairs_asked n number text pre known six (says ∙ two)))
      ∙ (takes pre).0 (cells_judges (pre ++ said text) (cells_place (pre ++ said text)) ++ last)

  second_fails_here : (fault : CertFault) → TakesSets n after rest (Err fault) → FailsFirst (outcome number (body_judges (pre ++ said text)) text) fault
  second_fails_here fault sets =
      subst (λ faults. FailsFirst faults fault) (sym asked)
      (subst (λ ws. FailsFirst (outcome after (cells_judges ws (cells_place ws) ++ last) rest) fault) whole (sets front place_here known_here))

  second_told_here : (cells : Vec ListedCell Global) → TakesSets n after rest (Ok cells) →
      (outcome number (body_judges (pre ++ said text)) text ≡ []) × (format_of (Some pairs) ≡ format)
      × (pairs.items ≡ (cert_of (pre ++ said text)).pairs) × (map listed cells.items ≡ (cert_of (pre ++ said text)).cells)
  second_told_here cells sets =
      let t = sets front place_here known_here in (
        asked ∙ subst (λ ws. outcome after (cells_judges ws (cells_place ws) ++ last) rest ≡ []) whole t.0,
        sym two,
        (takes pre).4 ∙ ap (section_said read_pair (pre ++ said text)) six ∙ (rw (says ∙ two) refl),
        t.1 ∙ ap (λ ws. (cert_of ws).cells) whole,
      )

pub second_fails : (format n number : ℕ) (text : List ℕ) (after : ℕ) (rest : List ℕ) (pairs : Vec Pair Global) (fault : CertFault)
    (result : Result (Option (Vec Pair Global) × Vec ListedCell Global) CertFault) →
    IsErrAnd result (λ e. e ≡ fault) → format ≡ 2 →
    TakesSection (codes "pairs") most_pairs (is_pair n) pair_key_of read_pair (λ (v : Vec Pair Global). v.items) number text after rest
    (Ok pairs) →
    TakesSets n after rest (Err fault) → TakesBody format n number text result
second_fails format n number text after rest pairs fault (Ok v) is two takes sets = elim is [ ]
second_fails format n number text after rest pairs fault (Err e) is two takes sets =
    rw is (λ pre six says known. second_fails_here format n number text after rest pairs two takes pre six says known fault sets)

pub second_told : (format n number : ℕ) (text : List ℕ) (after : ℕ) (rest : List ℕ) (pairs : Vec Pair Global) (cells : Vec ListedCell Global) → format ≡ 2 →
    TakesSection (codes "pairs") most_pairs (is_pair n) pair_key_of read_pair (λ (v : Vec Pair Global). v.items) number text after rest
    (Ok pairs) →
    TakesSets n after rest (Ok cells) → TakesBody format n number text (Ok (Some pairs, cells))
second_told format n number text after rest pairs cells two takes sets pre six says known =
    second_told_here format n number text after rest pairs two takes pre six says known cells sets

pub is_second : (format : ℕ) → (format ≡ 1) ⊎ (format ≡ 2) → (format ≡ 1 → ⊥) → format ≡ 2
is_second format (inl one) other = absurd (other one)
is_second format (inr two) other = two
