-- Lines of numbers.
use Rattle.std.proofs.Common.{◌≡◌, ℕ, ◌+◌, ◌<◌, ◌≤◌, refl, sym, ◌∙◌, ap, Bool, true, false, ◌==◌, inl, inr, ◌⊎◌, List, [], ◌∷◌, ◌++◌, length, map, get_or, None, Some, Result, Ok, Err, IfOk, IfErr, arith, append_assoc}
use Rattle.std.specs.List.{list_all}
use Rattle.std.specs.Result.{IsErrAnd}
use Rattle.certificate.specs.declared.faults.LineFault.TheVariants.{BadLine, BadNumber}
use Rattle.certificate.specs.declared.faults.CertFault.{CertFault}
use Rattle.certificate.specs.declared.faults.CertFault.TheVariants as found
use Rattle.definitions.specs.Texts.{same, number_of}
use Rattle.certificate.specs.Faults.{words, is_decimal, field_fault}
use Rattle.certificate.specs.Parsing.{Lacks, Cuts, Asks}
use Rattle.certificate.specs.Decoded.{numbers_of}
use Rattle.certificate.proofs.LineTests.{same_self, field_is, one_number}
use Rattle.certificate.proofs.Outcomes.{said_first, step, stop}
use Rattle.certificate.proofs.LineWords.{cut_words, whole_word}

-- the words after one that passes a test, and a last one
module _ (p : List ℕ → Bool) where
  pub cut_passes : (rest word more : List ℕ) → Cuts 32 rest word more → p word ≡ true → list_all p (words rest) ≡ list_all p (words more)
  cut_passes rest word more cuts e = rw (cut_words rest word more cuts) (rw e refl)

  pub cut_fails : (rest word more : List ℕ) → Cuts 32 rest word more → p word ≡ false → list_all p (words rest) ≡ false
  cut_fails rest word more cuts e = rw (cut_words rest word more cuts) (rw e refl)

  pub last_passes : (rest : List ℕ) → Lacks 32 rest → p rest ≡ true → list_all p (words rest) ≡ true
  last_passes rest lacks e = rw (whole_word rest lacks) (rw e refl)

  pub last_fails : (rest : List ℕ) → Lacks 32 rest → p rest ≡ false → list_all p (words rest) ≡ false
  last_fails rest lacks e = rw (whole_word rest lacks) (rw e refl)

pub cut_numbers : (old new : List ℕ) (rest word more : List ℕ) → Cuts 32 rest word more → new ≡ old ++ number_of word ∷ [] →
    new ++ map number_of (words more) ≡ old ++ map number_of (words rest)
cut_numbers old new rest word more cuts e = grind (arith, append_assoc, cut_words)

pub last_number : (old new : List ℕ) (rest : List ℕ) → Lacks 32 rest → new ≡ old ++ number_of rest ∷ [] → new ≡ old ++ map number_of (words rest)
last_number old new rest lacks e = e ∙ ap (λ ws. old ++ map number_of ws) (sym (whole_word rest lacks))

-- a refusal is handed on
pub refused_on : {V : Type 0} (result : Result V CertFault) (fault : CertFault) (line : ℕ) (a b : Bool) → IsErrAnd result (λ e. e ≡ fault) →
    (fault ≡ found.OutOfMemory) ⊎ ((fault ≡ found.Line line BadNumber) × (a ≡ false)) → (a ≡ false → b ≡ false) →
    IfErr result (λ e. (e ≡ found.OutOfMemory) ⊎ ((e ≡ found.Line line BadNumber) × (b ≡ false)))
refused_on (Ok value) fault line a b is why more = elim is [ ]
refused_on (Err given) fault line a b is (inl memory) more = inl (is ∙ memory)
refused_on (Err given) fault line a b is (inr (bad, other)) more = inr (is ∙ bad, more other)

-- a line of other words than are wanted
pub no_name : (name : List ℕ) (count least most : ℕ) (line : List ℕ) → 0 < count → Lacks 32 line → field_fault name count least most (words line) ≡ Some BadLine
no_name name count least most line some lacks = grind (arith, whole_word)

pub other_name : (name : List ℕ) (count least most : ℕ) (line word rest : List ℕ) → Cuts 32 line word rest → same word name ≡ false →
    field_fault name count least most (words line) ≡ Some BadLine
other_name name count least most line word rest cuts e = rw (cut_words line word rest cuts) (rw e refl)

pub other_count : (name : List ℕ) (count least most : ℕ) (line word rest : List ℕ) → Cuts 32 line word rest →
    (length (words rest) == count) ≡ false → field_fault name count least most (words line) ≡ Some BadLine
other_count name count least most line word rest cuts other = grind (arith, cut_words)

-- a line of the words that are wanted
pub field_told : (name : List ℕ) (count most : ℕ) (ws numbers : List (List ℕ)) → ws ≡ name ∷ numbers → length numbers ≡ count →
    list_all (is_decimal 0 most) numbers ≡ true → field_fault name count 0 most ws ≡ None
field_told name count most ws numbers is many all = grind (arith, same_self)

pub field_bad : (name : List ℕ) (count most : ℕ) (ws numbers : List (List ℕ)) → ws ≡ name ∷ numbers → length numbers ≡ count →
    list_all (is_decimal 0 most) numbers ≡ false → field_fault name count 0 most ws ≡ Some BadNumber
field_bad name count most ws numbers is many some = grind (arith, same_self)

-- what taking such a line tells
pub asked_numbers : {V : Type 0} (items : V → List ℕ) (name : List ℕ) (count most number after : ℕ) (text line rest digits : List ℕ)
    (result : Result V CertFault) →
    Cuts 10 text line rest → after ≡ number + 1 → words line ≡ name ∷ words digits → length (words digits) ≡ count →
    IfOk result (λ v. items v ≡ map number_of (words digits)) → IfOk result (λ _. list_all (is_decimal 0 most) (words digits) ≡ true) →
    IfErr result (λ fault. (fault ≡ found.OutOfMemory) ⊎ ((fault ≡ found.Line number BadNumber) × (list_all (is_decimal 0 most) (words digits) ≡ false))) →
    Asks (field_fault name count 0 most) number text after rest (λ ws v. items v ≡ numbers_of ws) result
asked_numbers items name count most number after text line rest digits (Ok v) cuts next is many numbers all refused =
    let passes = field_told name count most (words line) (words digits) is many all in grind (arith, said_first, step)
asked_numbers items name count most number after text line rest digits (Err fault) cuts next is many numbers all (inl memory) = rw memory (λ js. tt)
asked_numbers items name count most number after text line rest digits (Err fault) cuts next is many numbers all (inr (bad, some)) =
    rw bad (λ js. stop number (field_fault name count 0 most) js text line rest BadNumber cuts
    (field_bad name count most (words line) (words digits) is many some))

-- the number of a line that passes is in bounds
pub asked_within : (name : List ℕ) (least most number after : ℕ) (text rest : List ℕ) (result : Result ℕ CertFault) →
    Asks (field_fault name 1 least most) number text after rest (λ ws v. v ≡ number_of (get_or ws 1 [])) result →
    IfOk result (λ v. (least ≤ v) × (v ≤ most))
asked_within name least most number after text rest (Ok v) (ws, parts, passes, left, is) =
    rw is (one_number name least most ws (field_is name 1 least most ws passes)).1
asked_within name least most number after text rest (Err fault) asks = record {}
