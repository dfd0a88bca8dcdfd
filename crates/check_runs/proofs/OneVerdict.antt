-- What a check decides follows from the bytes of the file and of the certificate.
--     verdict_unique      one verdict on a certificate for a cover, and one line
--     judge_unique      one outcome of a check, and one line
use Rattle.std.proofs.Common.{◌≡◌, ℕ, ◌≤◌, ◌<◌, List, [], length, refl, sym, ap, ◌∙◌, subst, arith}
use Rattle.definitions.specs.Certificates.{Certificate}
use Rattle.certificate.specs.declared.faults.LineFault.{LineFault as TextFault}
use Rattle.certificate.specs.Faults.{FirstCertFault}
use Rattle.certificate.specs.Heads.{most_bytes}
use Rattle.certificate.proofs.Faultless.{spelled_not_faulty, one_first_fault}
use Rattle.certificate.proofs.Spellings.{one_form}
use Rattle.definitions.proofs.Certificates.Potential.{good_has_no_reason}
use Rattle.cert_check.proofs.Reasons.{first_reason_unique}
use Rattle.pla_reader.specs.declared.errors.LineFault.{LineFault}
use Rattle.pla_reader.specs.Covers.{NamedCover, functions_of}
use Rattle.pla_reader.specs.Lines.{said}
use Rattle.pla_reader.specs.Reading.{FirstFault, Reads}
use Rattle.pla_reader.proofs.CoverOrFault.{not_both, one_cover, one_fault}
use Rattle.outcomes.specs.declared.outcome.Outcome.{Outcome}
use Rattle.outcomes.specs.declared.outcome.Outcome.TheVariants.{Done, Invalid, Refused}
use Rattle.outcomes.specs.declared.outcome.Fault.TheVariants.{Line, TooLong, OutOfMemory, Device, StoreFull, Pairs, CertificateLine, CertificateTooLong}
use Rattle.check_runs.specs.Judging.{HasVerdict, Judge}
use Rattle.outcomes.specs.Limits.{ReadsWithin, SpellsWithin}
use Rattle.pla_reader.specs.Answering.{longest}
use Rattle.check_runs.specs.VerdictTexts.{invalid_line}

pub verdict_unique : (cover : NamedCover) (cert : Certificate) (outcome other : Outcome) (a b : List ℕ) → HasVerdict cover cert outcome a →
    HasVerdict cover cert other b → (outcome ≡ other) × (a ≡ b)
verdict_unique cover cert Done Done a b p q = (refl, p.1 ∙ sym q.1)
verdict_unique cover cert Done Invalid a b p q = absurd (good_has_no_reason cover.inputs (functions_of cover) cert p.0 q.0 q.1.applies)
verdict_unique cover cert Done (Refused fault) a b p q = absurd q
verdict_unique cover cert Invalid Done a b p q = absurd (good_has_no_reason cover.inputs (functions_of cover) cert q.0 p.0 p.1.applies)
verdict_unique cover cert Invalid Invalid a b p q =
    (refl, p.2 ∙ ap invalid_line (first_reason_unique cover.inputs (functions_of cover) cert p.0 q.0 p.1 q.1) ∙ sym q.2)
verdict_unique cover cert Invalid (Refused fault) a b p q = absurd q
verdict_unique cover cert (Refused fault) other a b p q = absurd p

-- what the bytes lead to, beside another outcome of them
module _ (file text : List ℕ) where
  -- bytes lead to a verdict, a fault of the file or one of the certificate, and to no other fault
  judged : (P : Outcome → List ℕ → Type 0) →
      ((cover : NamedCover) (cert : Certificate) (outcome : Outcome) (b : List ℕ) → ReadsWithin file cover → SpellsWithin text cert →
      HasVerdict cover cert outcome b → P outcome b) →
      ((k : ℕ) (f : LineFault) → length file ≤ longest → FirstFault file k f → P (Refused (Line k f)) []) →
      (longest < length file → P (Refused TooLong) []) →
      ((cover : NamedCover) → ReadsWithin file cover → (k : ℕ) (f : TextFault) → length text ≤ most_bytes → FirstCertFault text k f →
      P (Refused (CertificateLine k f)) []) →
      ((cover : NamedCover) → ReadsWithin file cover → most_bytes < length text → P (Refused CertificateTooLong) []) →
      (outcome : Outcome) (b : List ℕ) → Judge file text outcome b → P outcome b
  judged P verdict line long text_line text_long Done b q = verdict q.0 q.1 Done b q.2 q.3 q.4
  judged P verdict line long text_line text_long Invalid b q = verdict q.0 q.1 Invalid b q.2 q.3 q.4
  judged P verdict line long text_line text_long (Refused (Line k f)) b q = subst (P (Refused (Line k f))) (sym q.2) (line k f q.0 q.1)
  judged P verdict line long text_line text_long (Refused TooLong) b q = subst (P (Refused TooLong)) (sym q.1) (long q.0)
  judged P verdict line long text_line text_long (Refused OutOfMemory) b q = absurd q
  judged P verdict line long text_line text_long (Refused Device) b q = absurd q
  judged P verdict line long text_line text_long (Refused StoreFull) b q = absurd q
  judged P verdict line long text_line text_long (Refused (Pairs f)) b q = absurd q
  judged P verdict line long text_line text_long (Refused (CertificateLine k f)) b q =
      subst (P (Refused (CertificateLine k f))) (sym q.3) (text_line q.0.0 q.0.1 k f q.1 q.2)
  judged P verdict line long text_line text_long (Refused CertificateTooLong) b q =
      subst (P (Refused CertificateTooLong)) (sym q.2) (text_long q.0.0 q.0.1 q.1)

  abbrev Same : Outcome → List ℕ → Outcome → List ℕ → Type 0
  Same outcome a other b = (outcome ≡ other) × (a ≡ b)

  by_line : (line : ℕ) (fault : LineFault) → length file ≤ longest → FirstFault file line fault → (other : Outcome) (b : List ℕ) →
      Judge file text other b → Same (Refused (Line line fault)) [] other b
  by_line line fault few first = judged (Same (Refused (Line line fault)) [])
      (λ cover cert o b reads spells v. absurd (not_both (said file) cover line fault reads.1 first))
      (λ k f few' g. let s = one_fault (said file) line k fault f first g in ((λ i. Refused (Line (s.0 i) (s.1 i))), refl))
      (λ many. absurd (omega (arith, few, many)))
      (λ cover reads k f short g. absurd (not_both (said file) cover line fault reads.1 first))
      (λ cover reads long. absurd (not_both (said file) cover line fault reads.1 first))

  by_length : longest < length file → (other : Outcome) (b : List ℕ) → Judge file text other b → Same (Refused TooLong) [] other b
  by_length many = judged (Same (Refused TooLong) [])
      (λ cover cert o b reads spells v. absurd (let few : length file ≤ longest = reads.0 in omega (arith, many)))
      (λ k f few g. absurd (omega (arith, few, many)))
      (λ many'. (refl, refl))
      (λ cover reads k f short g. absurd (let few : length file ≤ longest = reads.0 in omega (arith, many)))
      (λ cover reads long. absurd (let few : length file ≤ longest = reads.0 in omega (arith, many)))

  module _ (cover : NamedCover) (few : length file ≤ longest) (reads : Reads file cover) where
    by_text_line : (line : ℕ) (fault : TextFault) → length text ≤ most_bytes → FirstCertFault text line fault →
        (other : Outcome) (b : List ℕ) → Judge file text other b → Same (Refused (CertificateLine line fault)) [] other b
    by_text_line line fault short first = judged (Same (Refused (CertificateLine line fault)) [])
        (λ cover' cert o b reads' spells v. absurd (spelled_not_faulty text cert line fault spells.1 first))
        (λ k f few' g. absurd (not_both (said file) cover k f reads g))
        (λ many. absurd (omega (arith, few, many)))
        (λ cover' reads' k f short' g. let s = one_first_fault text line k fault f first g in
        ((λ i. Refused (CertificateLine (s.0 i) (s.1 i))), refl))
        (λ cover' reads' long. absurd (omega (arith, short, long)))

    by_text_length : most_bytes < length text → (other : Outcome) (b : List ℕ) → Judge file text other b →
        Same (Refused CertificateTooLong) [] other b
    by_text_length long = judged (Same (Refused CertificateTooLong) [])
        (λ cover' cert o b reads' spells v. absurd (let short : length text ≤ most_bytes = spells.0 in omega (arith, long)))
        (λ k f few' g. absurd (not_both (said file) cover k f reads g))
        (λ many. absurd (omega (arith, few, many)))
        (λ cover' reads' k f short g. absurd (omega (arith, short, long)))
        (λ cover' reads' long'. (refl, refl))

    by_verdict : (outcome : Outcome) (a : List ℕ) (cert : Certificate) → SpellsWithin text cert → HasVerdict cover cert outcome a →
        (other : Outcome) (b : List ℕ) → Judge file text other b → Same outcome a other b
    by_verdict outcome a cert spells verdict = judged (Same outcome a)
        (λ cover' cert' o b reads' spells' verdict'.
        let covers = one_cover (said file) cover cover' reads reads'.1 in
        let certs = one_form cert cert' spells.1.has spells'.1.has (sym spells.1.text_is ∙ spells'.1.text_is) in
        verdict_unique cover cert outcome o a b verdict
        (subst (λ (k : Certificate). HasVerdict cover k o b) (sym certs) (subst (λ (k : NamedCover). HasVerdict k cert' o b) (sym covers) verdict')))
        (λ k f few' g. absurd (not_both (said file) cover k f reads g))
        (λ many. absurd (omega (arith, few, many)))
        (λ cover' reads' k f short g. absurd (spelled_not_faulty text cert k f spells.1 g))
        (λ cover' reads' long. absurd (let short : length text ≤ most_bytes = spells.0 in omega (arith, long)))

  pub judge_unique : (outcome other : Outcome) (a b : List ℕ) → Judge file text outcome a → Judge file text other b → (outcome ≡ other) × (a ≡ b)
  judge_unique outcome other a b p q = judged (λ o x. Same o x other b)
      (λ cover cert o x reads spells v. by_verdict cover reads.0 reads.1 o x cert spells v other b q)
      (λ k f few g. by_line k f few g other b q)
      (λ many. by_length many other b q)
      (λ cover reads k f short g. by_text_line cover reads.0 reads.1 k f short g other b q)
      (λ cover reads long. by_text_length cover reads.0 reads.1 long other b q)
      outcome a p
