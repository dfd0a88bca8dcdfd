-- The first lines of a text, taken one after another.
use Rattle.std.proofs.Common.{◌≡◌, ℕ, ◌≤◌, refl, sym, ◌∙◌, ap, subst, List, [], ◌∷◌, ◌++◌, None, Result, Ok, Err, append_assoc}
use Rattle.std.specs.List.{All, AllByRecursion}
use Rattle.std.specs.Result.{IsErrAnd}
use Rattle.std.proofs.lemmas.List.Elements.{All-from_recursion}
use Rattle.certificate.specs.declared.faults.CertFault.{CertFault}
use Rattle.certificate.specs.Faults.{LineTest, said, inputs_said, field_fault, head_judges}
use Rattle.certificate.specs.Decoded.{numbers_of}
use Rattle.certificate.specs.Parsing.{FailsFirst, Asks, outcome}
use Rattle.certificate.specs.Heads.{TakesHead}
use Rattle.certificate.specs.declared.parser.Head.{Head}
use Rattle.certificate.specs.declared.faults.CertFault.TheVariants as found
use Rattle.certificate.proofs.LineTests.{IsFrom, field_is}

-- some lines of a text are taken, and pass what they are asked
pub record Taken (number₀ : ℕ) (text : List ℕ) (js : List LineTest) (lines : List (List (List ℕ))) (number : ℕ) (rest : List ℕ) : Type 0 where
  pub parts : said text ≡ lines ++ said rest
  pub left : (ks : List LineTest) → outcome number₀ (js ++ ks) text ≡ outcome number ks rest

pub taken_none : (number : ℕ) (text : List ℕ) → Taken number text [] [] number text
taken_none number text = record { parts = refl; left = λ ks. refl }

-- a line passes what it is asked, and Q holds of its words
abbrev pub Passes : LineTest → ℕ → List ℕ → ℕ → List ℕ → (List (List ℕ) → Type 0) → Type 0
Passes judge number text after rest Q =
    (ws : List (List ℕ)) × (said text ≡ ws ∷ said rest) × (judge ws ≡ None)
    × ((js : List LineTest) → outcome number (judge ∷ js) text ≡ outcome after js rest) × Q ws

module _ {number₀ : ℕ} {text : List ℕ} {js : List LineTest} {lines : List (List (List ℕ))} {number : ℕ} {rest : List ℕ}
    (taken : Taken number₀ text js lines number rest) where
  pub taken_more : {judge : LineTest} {after : ℕ} {rest' : List ℕ} {Q : List (List ℕ) → Type 0} → (passes : Passes judge number rest after rest' Q) →
      Taken number₀ text (js ++ judge ∷ []) (lines ++ passes.0 ∷ []) after rest'
  taken_more {judge = judge} {rest' = rest'} (ws, parts, passes, left, _) = record {
    parts = taken.parts ∙ ap (λ xs. lines ++ xs) parts ∙ sym (append_assoc lines (ws ∷ []) (said rest'));
    left = λ ks. ap (λ all. outcome number₀ all text) (append_assoc js (judge ∷ []) ks) ∙ taken.left (judge ∷ ks) ∙ left ks;
  }

  -- the next of the first six lines is refused, where their number of inputs is known or not asked for
  pub told_fails : (judge : LineTest) (others : List LineTest) (after n : ℕ) (rest' : List ℕ) (fault : CertFault) (result : Result Head CertFault) →
      IsErrAnd result (λ e. e ≡ fault) → inputs_said (said text) ≡ n → head_judges n ≡ js ++ (judge ∷ others) →
      ((ks : List LineTest) → FailsFirst (outcome number (judge ∷ ks) rest) fault) → TakesHead number₀ text after rest' result
  told_fails judge others after n rest' fault (Ok head) is known are fails = elim is [ ]
  told_fails judge others after n rest' fault (Err e) is known are fails =
      rw is (λ ks. subst (λ faults. FailsFirst faults fault)
      (sym (ap (λ m. outcome number₀ (head_judges m ++ ks) text) known ∙ ap (λ all. outcome number₀ (all ++ ks) text) are
      ∙ ap (λ all. outcome number₀ all text) (append_assoc js (judge ∷ others) ks) ∙ taken.left (judge ∷ (others ++ ks))))
      (fails (others ++ ks)))

pub head_memory : (number₀ : ℕ) (text : List ℕ) (after : ℕ) (rest : List ℕ) (fault : CertFault) (result : Result Head CertFault) →
    IsErrAnd result (λ e. e ≡ fault) → fault ≡ found.OutOfMemory → TakesHead number₀ text after rest result
head_memory number₀ text after rest fault (Ok head) is memory = elim is [ ]
head_memory number₀ text after rest fault (Err e) is memory = rw (is ∙ memory) (λ ks. tt)

-- numbers of a line that passes are in bounds
pub small_numbers : {V : Type 0} (items : V → List ℕ) (name : List ℕ) (count most number after : ℕ) (text rest : List ℕ) (v : V) →
    Asks (field_fault name count 0 most) number text after rest (λ ws w. items w ≡ numbers_of ws) (Ok v) → All (λ k. k ≤ most) (items v)
small_numbers items name count most number after text rest v (ws, parts, passes, left, stated) =
    let is = field_is name count 0 most ws passes in rw stated (All-from_recursion _ _ (upper (numbers_of ws) is.bounds)) where
      upper : (ns : List ℕ) → AllByRecursion (IsFrom 0 most) ns → AllByRecursion (λ k. k ≤ most) ns
      upper [] all = tt
      upper (n ∷ ns) (here, all) = (here.1, upper ns all)
