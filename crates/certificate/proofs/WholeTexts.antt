-- A text that is read to its end.
use Rattle.std.proofs.Common.{◌≡◌, ℕ, ◌+◌, ◌≤◌, refl, sym, ◌∙◌, ap, subst, List, ◌++◌, length, Option, Result, Ok, Err, IfErr, arith, Vec, Global}
use Rattle.std.specs.Result.{IsErrAnd}
use Rattle.definitions.specs.Pairs.{Pair}
use Rattle.definitions.specs.declared.listed_cells.ListedCell.{ListedCell}
use Rattle.certificate.specs.declared.faults.CertFault.{CertFault}
use Rattle.certificate.specs.declared.faults.CertFault.TheVariants as found
use Rattle.certificate.specs.declared.parser.Head.{Head}
use Rattle.certificate.specs.Spelling.{HasSpelling, spelling}
use Rattle.certificate.specs.Faults.{said, number_said, inputs_said, head_judges, judges, trailing, faults}
use Rattle.certificate.specs.Decoded.{cert_of}
use Rattle.certificate.specs.Parsing.{FailsFirst, outcome}
use Rattle.certificate.specs.Heads.{TakesHead, TakesBody, FailsToParse, body_judges, most_bytes}
use Rattle.certificate.specs.Values.{contents}
use Rattle.certificate.specs.declared.certificate.CertificateParts.{CertificateParts}
use Rattle.certificate.proofs.Spellings.{by_parts}
use Rattle.certificate.proofs.Faultless.{Faultless, faultless}

abbrev pub parts_read : Head → Option (Vec Pair Global) → Vec ListedCell Global → CertificateParts
parts_read head pairs cells = record {
  inputs = head.inputs;
  outputs = head.outputs;
  order = head.order;
  levels = head.levels;
  total = head.total;
  pairs = pairs;
  cells = cells;
}

faults_are : (text : List ℕ) → outcome 1 (head_judges (inputs_said (said text)) ++ body_judges (said text)) text ≡ faults text
unfolding outcome faults trailing judges
faults_are text = let next : 1 + length (judges (said text)) ≡ length (judges (said text)) + 1 = omega arith in rw next refl

refuses : (text : List ℕ) (fault : CertFault) → length text ≤ most_bytes → FailsFirst (faults text) fault → FailsToParse text fault
refuses text (found.Line number fault) short (others, first) = (short, record { others = others; first = first })
refuses text found.TooLong short fails = elim fails [ ]
refuses text found.OutOfMemory short fails = tt

-- lines that are taken from the first one on
pub from_start : {number : ℕ} {given text : List ℕ} (after : ℕ) (rest : List ℕ) (result : Result Head CertFault) → number ≡ 1 → given ≡ text →
    TakesHead number given after rest result → TakesHead 1 text after rest result
from_start after rest result one same takes = rw one at (rw same at takes)

pub head_refused : {V : Type 0} (text : List ℕ) (after : ℕ) (rest : List ℕ) (fault : CertFault) (result : Result V CertFault) →
    IsErrAnd result (λ e. e ≡ fault) → length text ≤ most_bytes → TakesHead 1 text after rest (Err fault) → IfErr result (FailsToParse text)
head_refused text after rest fault (Ok v) is short takes = elim is [ ]
head_refused text after rest fault (Err e) is short takes =
    rw is (refuses text fault short (subst (λ fs. FailsFirst fs fault) (faults_are text) (takes (body_judges (said text)))))

module _ (text : List ℕ) (after : ℕ) (rest : List ℕ) (head : Head) (takes : TakesHead 1 text after rest (Ok head)) where
  -- what is asked of the lines after the first six
  behind : faults text ≡ outcome after (body_judges (takes.1 ++ said rest)) rest
  behind = sym (faults_are text) ∙ takes.4 (body_judges (said text)) ∙ ap (λ ws. outcome after (body_judges ws) rest) takes.2

  format_here : number_said (takes.1 ++ said rest) 0 ≡ head.format
  format_here = ap (λ ws. number_said ws 0) (sym takes.2) ∙ sym takes.0.format

  inputs_here : inputs_said (takes.1 ++ said rest) ≡ head.inputs
  inputs_here = ap inputs_said (sym takes.2) ∙ sym takes.0.inputs

  pub body_refused : {V : Type 0} (fault : CertFault) (result : Result V CertFault) → IsErrAnd result (λ e. e ≡ fault) →
      length text ≤ most_bytes → TakesBody head.format head.inputs after rest (Err fault) → IfErr result (FailsToParse text)
  body_refused fault (Ok v) is short body = elim is [ ]
  body_refused fault (Err e) is short body = grind (arith, behind)

  module _ (pairs : Option (Vec Pair Global)) (cells : Vec ListedCell Global) (body : TakesBody head.format head.inputs after rest (Ok (pairs, cells))) where
    stated : Faultless text
    stated = faultless text (behind ∙ (body takes.1 takes.3 format_here inputs_here).0)

    pub parts_are : contents (parts_read head pairs cells) ≡ cert_of (said text)
    parts_are =
        let b = body takes.1 takes.3 format_here inputs_here in let h = takes.0 in
        by_parts _ _ _ _ _ _ _ _ _ _ _ _ _ _ _ _ (b.1 ∙ h.format) h.inputs h.outputs h.order h.levels h.total
        (b.2 ∙ ap (λ ws. (cert_of ws).pairs) (sym takes.2)) (b.3 ∙ ap (λ ws. (cert_of ws).cells) (sym takes.2))

    pub parts_spelled : HasSpelling (contents (parts_read head pairs cells))
    parts_spelled = rw parts_are stated.has

    pub text_spelled : text ≡ spelling (contents (parts_read head pairs cells))
    text_spelled = rw parts_are stated.text_is
