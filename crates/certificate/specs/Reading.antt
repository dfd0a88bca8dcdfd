-- The lines that are left of a text.
--     last_number lines      no line that is left has a number above it
--     FitsCount lines, StaysWithin old new      it fits a count of lines; it doesn't rise
--     ReadsLine reads old new result      the next line is read
--     TakesLine judge old new P result, TakesEntries .. old new result      the next line, and a section, is taken
use Rattle.std.specs.Prelude.{◌≡◌, ◌⊎◌, ℕ, ◌+◌, ◌^◌, ◌<◌, ◌≤◌, Bool, List, length, Result, Ok, Err}
use Rattle.certificate.specs.declared.faults.CertFault.{CertFault}
use Rattle.certificate.specs.declared.faults.CertFault.TheVariants.{Line}
use Rattle.certificate.specs.declared.faults.LineFault.{LineFault}
use Rattle.certificate.specs.declared.faults.LineFault.TheVariants.{MissingLine}
use Rattle.certificate.specs.declared.reader.Lines.{Lines}
use Rattle.certificate.specs.Faults.{LineTest}
use Rattle.certificate.specs.Parsing.{Asks, Cuts, Lacks, TakesSection}

-- no line that is left has a number above this one: each has a byte at least
abbrev pub last_number : Lines → ℕ
last_number lines = lines.number + length lines.rest.now

-- the numbers of all lines fit a count
abbrev pub FitsCount : Lines → Type 0
FitsCount lines = last_number lines < 2 ^ 63

-- what was taken does not raise the last number
abbrev pub StaysWithin : Lines → Lines → Type 0
StaysWithin old new = last_number new ≤ last_number old

-- the next line is read, and its fault gets its number, or it is missing
abbrev pub LineRead : {V : Type 0} → (List ℕ → Result V LineFault → Type 0) → Lines → Lines → Result V CertFault → Type 0
LineRead reads old new (Ok value) =
    (line : List ℕ) × Cuts 10 old.rest.now line new.rest.now × (new.number ≡ old.number + 1) × reads line (Ok value)
LineRead reads old new (Err fault) = ((fault ≡ Line old.number MissingLine) × Lacks 10 old.rest.now)
    ⊎ ((line : List ℕ) × (wrong : LineFault) × Cuts 10 old.rest.now line new.rest.now × (fault ≡ Line old.number wrong)
    × reads line (Err wrong))

pub record ReadsLine {V : Type 0} (reads : List ℕ → Result V LineFault → Type 0) (old new : Lines) (result : Result V CertFault) :
    Type 0 where
  pub read : LineRead reads old new result

-- the next line is taken: it passes, and P holds of its words and the value; or the text's first fault is told
abbrev pub TakesLine : {V : Type 0} → LineTest → Lines → Lines → (List (List ℕ) → V → Type 0) → Result V CertFault → Type 0
TakesLine judge old new P result = Asks judge old.number old.rest.now new.number new.rest.now P result

-- the lines of a section are taken: they pass, and its entries are told; or the text's first fault is
abbrev pub TakesEntries : {V E : Type 0} → List ℕ → ℕ → (List ℕ → List ℕ → Bool) → (List ℕ → List ℕ → ℕ) →
    (List (List ℕ) → E) →
    (V → List E) → Lines → Lines → Result V CertFault → Type 0
TakesEntries name most is_entry key read items old new result =
    TakesSection name most is_entry key read items old.number old.rest.now new.number new.rest.now result
