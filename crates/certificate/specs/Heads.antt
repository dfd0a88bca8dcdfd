-- What the first six lines of a text say, and those after them.
--     IsHead ws head      the parts that the words of the lines give
--     TakesHead number text after rest result      the first six lines of a text are taken
--     TakesBody format n number text result      all lines after them are taken
--     FailsToParse text fault      why a text is refused
use Rattle.std.specs.Prelude.{◌≡◌, ℕ, ◌<◌, ◌≤◌, ◌⊎◌, List, [], ◌∷◌, ◌++◌, length, map, get_or, codes, Option, Result, Ok, Err}
use Rattle.std.specs.Global.{Global}
use Rattle.std.specs.Prelude.{Vec}
use Rattle.definitions.specs.Pairs.{Pair}
use Rattle.definitions.specs.Listed.{listed}
use Rattle.definitions.specs.declared.listed_cells.ListedCell.{ListedCell}
use Rattle.certificate.specs.declared.parser.Head.{Head}
use Rattle.certificate.specs.declared.faults.CertFault.{CertFault}
use Rattle.certificate.specs.declared.faults.CertFault.TheVariants as found
use Rattle.certificate.specs.Faults.{FirstCertFault, LineTest, said, number_said, inputs_said, head_judges, pairs_judges, cells_judges, fixed_fault}
use Rattle.certificate.specs.Decoded.{numbers_of, cells_place, cert_of}
use Rattle.certificate.specs.Values.{format_of, pairs_in}
use Rattle.certificate.specs.Parsing.{FailsFirst, outcome}

-- the parts that the words of the lines give
pub record IsHead (ws : List (List (List ℕ))) (head : Head) : Type 0 where
  pub format : head.format ≡ number_said ws 0
  pub inputs : head.inputs ≡ number_said ws 1
  pub outputs : head.outputs ≡ number_said ws 2
  pub order : head.order.items ≡ numbers_of (get_or ws 3 [])
  pub levels : head.levels.items ≡ numbers_of (get_or ws 4 [])
  pub total : head.total ≡ number_said ws 5
  pub some : 1 ≤ head.inputs
  pub few : head.inputs ≤ 16
  pub known : (head.format ≡ 1) ⊎ (head.format ≡ 2)

-- the first six lines of a text are taken, or the text's first fault is told
abbrev pub TakesHead : ℕ → List ℕ → ℕ → List ℕ → Result Head CertFault → Type 0
TakesHead number text after rest (Ok head) = IsHead (said text) head
    × (lines : List (List (List ℕ))) × (said text ≡ lines ++ said rest) × (length lines ≡ 6)
    × ((js : List LineTest) → outcome number (head_judges (inputs_said (said text)) ++ js) text ≡ outcome after js rest)
TakesHead number text after rest (Err fault) = (js : List LineTest) →
    FailsFirst (outcome number (head_judges (inputs_said (said text)) ++ js) text) fault

-- what is asked of the lines after the first six
abbrev pub body_judges : List (List (List ℕ)) → List LineTest
body_judges ws = pairs_judges ws ++ (cells_judges ws (cells_place ws) ++ fixed_fault (codes "end" ∷ []) ∷ [])

-- the lines of listed sets and the last one are taken, after some lines that say a number of inputs, or the first fault is told
abbrev pub TakesSets : ℕ → ℕ → List ℕ → Result (Vec ListedCell Global) CertFault → Type 0
TakesSets n number text (Ok cells) = (pre : List (List (List ℕ))) → length pre ≡ cells_place (pre ++ said text) →
    inputs_said (pre ++ said text) ≡ n →
    (outcome number (cells_judges (pre ++ said text) (cells_place (pre ++ said text))
    ++ fixed_fault (codes "end" ∷ []) ∷ []) text ≡ [])
    × (map listed cells.items ≡ (cert_of (pre ++ said text)).cells)
TakesSets n number text (Err fault) = (pre : List (List (List ℕ))) → length pre ≡ cells_place (pre ++ said text) →
    inputs_said (pre ++ said text) ≡ n →
    FailsFirst (outcome number (cells_judges (pre ++ said text) (cells_place (pre ++ said text))
    ++ fixed_fault (codes "end" ∷ []) ∷ []) text) fault

-- what stands after six lines that say a format and a number of inputs is taken to its end, or the first fault is told
abbrev pub TakesBody : ℕ → ℕ → ℕ → List ℕ → Result (Option (Vec Pair Global) × Vec ListedCell Global) CertFault → Type 0
TakesBody format n number text (Ok parts) =
    (pre : List (List (List ℕ))) → length pre ≡ 6 → number_said (pre ++ said text) 0 ≡ format →
    inputs_said (pre ++ said text) ≡ n →
    (outcome number (body_judges (pre ++ said text)) text ≡ []) × (format_of parts.0 ≡ format)
    × (pairs_in parts.0 ≡ (cert_of (pre ++ said text)).pairs)
    × (map listed parts.1.items ≡ (cert_of (pre ++ said text)).cells)
TakesBody format n number text (Err fault) =
    (pre : List (List (List ℕ))) → length pre ≡ 6 → number_said (pre ++ said text) 0 ≡ format →
    inputs_said (pre ++ said text) ≡ n →
    FailsFirst (outcome number (body_judges (pre ++ said text)) text) fault

-- the longest text
abbrev pub most_bytes : ℕ
most_bytes = 1048576

-- why a text is refused: its first fault, or that it is too long; out of memory may stand in the place of either
abbrev pub FailsToParse : List ℕ → CertFault → Type 0
FailsToParse text (found.Line number fault) = (length text ≤ most_bytes) × FirstCertFault text number fault
FailsToParse text found.TooLong = most_bytes < length text
FailsToParse text found.OutOfMemory = Unit {0}
