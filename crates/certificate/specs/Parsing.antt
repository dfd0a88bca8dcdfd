-- What parts of a text say, as the program takes them.
--     Lacks byte text, Cuts byte text front behind      the byte doesn't stand in the text; it parts the text for the first time
--     Says judge line result P      the line passes what it is asked and P holds of its value, or it has the fault
--     outcome number js text      the faults of a text, the first line of which has a number, by what its lines are asked
--     FailsFirst faults fault      the first of them
--     Asks judge number text after rest P result, TakesSection ..      the first line of a text, and a section, is taken
use Rattle.std.specs.Prelude.{◌≡◌, ℕ, ◌+◌, Bool, false, if◌then◌else◌, ◌==◌, nat_lt, List, [], ◌∷◌, ◌++◌, length, take, Some, None, Result, Ok, Err}
use Rattle.std.specs.List.{All}
use Rattle.certificate.specs.declared.faults.LineFault.{LineFault}
use Rattle.certificate.specs.declared.faults.LineFault.TheVariants.{TrailingText}
use Rattle.certificate.specs.declared.faults.CertFault.{CertFault}
use Rattle.certificate.specs.declared.faults.CertFault.TheVariants as found
use Rattle.certificate.specs.Faults.{LineTest, words, said, whole_lines, with_feeds, line_faults, section_judges}
use Rattle.certificate.specs.Decoded.{section_said}

-- the byte doesn't stand in the text
abbrev pub Lacks : ℕ → List ℕ → Type 0
Lacks byte text = All (λ b. (b == byte) ≡ false) text

-- the byte parts the text where it stands for the first time
abbrev pub Cuts : ℕ → List ℕ → List ℕ → List ℕ → Type 0
Cuts byte text front behind = (text ≡ front ++ byte ∷ behind) × Lacks byte front

-- the line passes what it is asked, and P holds of its value, or it has the fault
abbrev pub Says : {V : Type 0} → LineTest → List ℕ → (V → Type 0) → Result V LineFault → Type 0
Says judge line P (Ok value) = (judge (words line) ≡ None) × P value
Says judge line P (Err fault) = judge (words line) ≡ Some fault

-- what follows so many lines of a text, the first of which has a number
abbrev pub trailing_from : ℕ → ℕ → List ℕ → List (ℕ × LineFault)
trailing_from number count text =
    if nat_lt (length (with_feeds (take count (whole_lines text)))) (length text) then (number + count, TrailingText) ∷ []
    else []

-- the faults of a text, the first line of which has a number, by what its lines are asked
unfoldable pub outcome : ℕ → List LineTest → List ℕ → List (ℕ × LineFault)
outcome number js text = line_faults number js (said text) ++ trailing_from number (length js) text

-- the first of some faults; out of memory may stand in its place
abbrev pub FailsFirst : List (ℕ × LineFault) → CertFault → Type 0
FailsFirst faults (found.Line number fault) = (others : List (ℕ × LineFault)) × (faults ≡ (number, fault) ∷ others)
FailsFirst faults found.TooLong = ⊥
FailsFirst faults found.OutOfMemory = Unit {0}

-- the first line of a text is taken: it passes, and P holds of its words and the value; or the text's first fault is told
abbrev pub Asks : {V : Type 0} → LineTest → ℕ → List ℕ → ℕ → List ℕ → (List (List ℕ) → V → Type 0) → Result V CertFault →
    Type 0
Asks judge number text after rest P (Ok value) =
    (ws : List (List ℕ)) × (said text ≡ ws ∷ said rest) × (judge ws ≡ None)
    × ((js : List LineTest) → outcome number (judge ∷ js) text ≡ outcome after js rest) × P ws value
Asks judge number text after rest P (Err fault) = (js : List LineTest) → FailsFirst (outcome number (judge ∷ js) text) fault

-- a section of a text is taken, which stands after some lines: its lines pass, and its entries are told; or the text's first fault is
abbrev pub TakesSection : {V E : Type 0} → List ℕ → ℕ → (List ℕ → List ℕ → Bool) → (List ℕ → List ℕ → ℕ) →
    (List (List ℕ) → E) →
    (V → List E) → ℕ → List ℕ → ℕ → List ℕ → Result V CertFault → Type 0
TakesSection name most is_entry key read items number text after rest (Ok value) = (pre : List (List (List ℕ))) →
    ((js : List LineTest) → outcome number
    (section_judges name most is_entry key (pre ++ said text) (length pre) ++ js) text ≡ outcome after js rest)
    × (lines : List (List (List ℕ))) × (said text ≡ lines ++ said rest)
    × (length lines ≡ length (section_judges name most is_entry key (pre ++ said text) (length pre)))
    × (items value ≡ section_said read (pre ++ said text) (length pre))
TakesSection name most is_entry key read items number text after rest (Err fault) = (pre : List (List (List ℕ)))
    (js : List LineTest) →
    FailsFirst (outcome number (section_judges name most is_entry key (pre ++ said text) (length pre) ++ js) text) fault
