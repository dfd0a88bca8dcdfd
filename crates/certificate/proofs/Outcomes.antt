-- How the faults of a text follow from its first line and the lines after it.
use Rattle.std.proofs.Common.{◌≡◌, ℕ, ◌+◌, ◌<◌, suc, refl, ◌∙◌, ap, false, ◌==◌, List, [], ◌∷◌, ◌++◌, length, map, None, Some, Result, Ok, Err, IfErr, inl, inr, arith}
use Rattle.std.specs.List.{AllByRecursion}
use Rattle.std.specs.Result.{IsErrAnd}
use Rattle.std.proofs.lemmas.List.{length-append}
use Rattle.std.proofs.lemmas.List.Elements.{recursion_from_All}
use Rattle.certificate.specs.declared.faults.LineFault.{LineFault}
use Rattle.certificate.specs.declared.faults.LineFault.TheVariants.{MissingLine, TrailingText}
use Rattle.certificate.specs.declared.faults.CertFault.{CertFault}
use Rattle.certificate.specs.Faults.{LineTest, words, said, whole_lines, line_faults}
use Rattle.certificate.specs.Parsing.{Lacks, Cuts, FailsFirst, Says, trailing_from, outcome}
use Rattle.certificate.specs.Reading.{LineRead, ReadsLine, TakesLine}
use Rattle.certificate.specs.declared.reader.Lines.{Lines}
use Rattle.certificate.proofs.WordLines.{HasNoFeed, line_first, no_line}

has_none : (text : List ℕ) → AllByRecursion (λ b. (b == 10) ≡ false) text → HasNoFeed text
has_none [] all = tt
has_none (b ∷ text) (here, all) = (here, has_none text all)

first_line : (text line rest : List ℕ) → Cuts 10 text line rest → whole_lines text ≡ line ∷ whole_lines rest
first_line text line rest (parts, lacks) = ap whole_lines parts ∙ line_first line rest (has_none line (recursion_from_All _ line lacks))

-- the words of the lines of a text
pub said_first : (text line rest : List ℕ) → Cuts 10 text line rest → said text ≡ words line ∷ said rest
said_first text line rest cuts = ap (map words) (first_line text line rest cuts)

pub said_none : (text : List ℕ) → Lacks 10 text → said text ≡ []
said_none text lacks = ap (map words) (no_line text (has_none text (recursion_from_All _ text lacks)))

-- what follows the lines is what follows the others
trails : (number count : ℕ) (text line rest : List ℕ) → Cuts 10 text line rest → trailing_from number (suc count) text ≡ trailing_from (number + 1) count rest
trails number count text line rest cuts = grind (arith, first_line, length-append)

-- the first line passes
pub step : (number : ℕ) (judge : LineTest) (js : List LineTest) (text line rest : List ℕ) → Cuts 10 text line rest → judge (words line) ≡ None →
    outcome number (judge ∷ js) text ≡ outcome (number + 1) js rest
unfolding outcome line_faults
step number judge js text line rest cuts passes = grind (arith, said_first, trails)

pub stop : (number : ℕ) (judge : LineTest) (js : List LineTest) (text line rest : List ℕ) (fault : LineFault) → Cuts 10 text line rest →
    judge (words line) ≡ Some fault →
    (others : List (ℕ × LineFault)) × (outcome number (judge ∷ js) text ≡ (number, fault) ∷ others)
unfolding outcome line_faults
stop number judge js text line rest fault cuts fails =
    (line_faults (number + 1) js (said rest) ++ trailing_from number (suc (length js)) text, rw (said_first text line rest cuts) (rw fails refl))

pub missing : (number : ℕ) (judge : LineTest) (js : List LineTest) (text : List ℕ) → Lacks 10 text →
    (others : List (ℕ × LineFault)) × (outcome number (judge ∷ js) text ≡ (number, MissingLine) ∷ others)
unfolding outcome line_faults
missing number judge js text lacks = (line_faults (number + 1) js [] ++ trailing_from number (suc (length js)) text, rw (said_none text lacks) refl)

pub ended : (number : ℕ) → outcome number [] [] ≡ []
unfolding outcome line_faults
ended number = refl

pub trailing_text : (number : ℕ) (text : List ℕ) → 0 < length text →
    (others : List (ℕ × LineFault)) × (outcome number [] text ≡ (number, TrailingText) ∷ others)
unfolding outcome line_faults
trailing_text number text some = grind arith

-- what taking a line tells, by what its reader says
module _ {V : Type 0} (judge : LineTest) (P : List (List ℕ) → V → Type 0) (reads : List ℕ → Result V LineFault → Type 0) (old new : Lines) where
  asked_by : (result : Result V CertFault) → LineRead reads old new result →
      ((line : List ℕ) (r : Result V LineFault) → reads line r → Says judge line (P (words line)) r) → TakesLine judge old new P result
  asked_by (Ok value) (line, cuts, next, read) told =
      let says = told line (Ok value) read in (
        words line,
        said_first _ line _ cuts,
        says.0,
        λ js. rw next (step old.number judge js _ line _ cuts says.0),
        says.1,
      )
  asked_by (Err fault) (inl (is, lacks)) told = rw is (λ js. missing old.number judge js _ lacks)
  asked_by (Err fault) (inr (line, wrong, cuts, is, read)) told =
      rw is (λ js. stop old.number judge js _ line _ wrong cuts (told line (Err wrong) read))

  pub asked : (result : Result V CertFault) → ReadsLine reads old new result →
      ((line : List ℕ) (r : Result V LineFault) → reads line r → Says judge line (P (words line)) r) → TakesLine judge old new P result
  asked result r told = asked_by result r.read told

-- a refusal is handed on
pub only_fails : {V : Type 0} (faults : List (ℕ × LineFault)) (fault : CertFault) (result : Result V CertFault) →
    IsErrAnd result (λ e. e ≡ fault) → FailsFirst faults fault → IfErr result (FailsFirst faults)
only_fails faults fault (Ok value) is fails = elim is [ ]
only_fails faults fault (Err given) is fails = rw is fails
