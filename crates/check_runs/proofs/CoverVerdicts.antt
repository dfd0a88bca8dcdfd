-- What the checker says of a cover's truth tables holds of the cover, and of all diagrams.
--     good_for, reason_for      what it says of the cover
--     true_certificate      what a good certificate says of all diagrams
--     accepted      an accepted certificate is true
--     checked, verdict_written      a verdict whose line is written
use Rattle.std.proofs.Common.{◌∙◌, List, ℕ, Option, subst}
use Rattle.std.specs.Io.KnownBytes.{Appends}
use Rattle.definitions.specs.Certificates.{Certificate, Reason, IsGood, IsFirstReason}
use Rattle.definitions.specs.Problems.{TruthTables, functions}
use Rattle.definitions.proofs.Nodes.Construction.{exact_diagram}
use Rattle.definitions.proofs.Certificates.Potential.{good_order, no_diagram_is_smaller}
use Rattle.definitions.proofs.Certificates.Same.{first_reason_same, good_same}
use Rattle.pla_reader.specs.Covers.{NamedCover, functions_of}
use Rattle.pla_reader.specs.Reading.{Reads}
use Rattle.certificate.specs.Faults.{Spells}
use Rattle.truth_table.specs.OfCovers.{AreTablesOf}
use Rattle.outcomes.specs.declared.outcome.Outcome.{Outcome}
use Rattle.outcomes.specs.declared.outcome.Outcome.TheVariants.{Done, Invalid, Refused}
use Rattle.outcomes.specs.Headline.{AcceptsTruly, IsOptimum}
use Rattle.outcomes.specs.Limits.{ReadsWithin, SpellsWithin}
use Rattle.check_runs.specs.Judging.{ChecksAs, HasVerdict, Verdicts}
use Rattle.truth_table.proofs.OfCovers.{tables_keep}

pub good_for : (cover : NamedCover) (t : TruthTables) (cert : Certificate) → AreTablesOf cover t → IsGood t.inputs (functions t) cert →
    IsGood cover.inputs (functions_of cover) cert
good_for cover t cert h good =
    good_same cover.inputs (functions t) (functions_of cover) (tables_keep cover t h) cert
    (subst (λ k. IsGood k (functions t) cert) h.inputs good)

pub reason_for : (cover : NamedCover) (t : TruthTables) (cert : Certificate) (reason : Reason) → AreTablesOf cover t →
    IsFirstReason t.inputs (functions t) cert reason → IsFirstReason cover.inputs (functions_of cover) cert reason
reason_for cover t cert reason h first =
    first_reason_same cover.inputs (functions t) (functions_of cover) (tables_keep cover t h) cert reason
    (subst (λ k. IsFirstReason k (functions t) cert reason) h.inputs first)

pub true_certificate : (cover : NamedCover) (cert : Certificate) → IsGood cover.inputs (functions_of cover) cert →
    IsOptimum cover.inputs (functions_of cover) cert.pairs cert.order cert.total
true_certificate cover cert good =
    let order = good_order cover.inputs (functions_of cover) cert good in
    let exact = exact_diagram cover.inputs (functions_of cover) cert.order order.0 in record {
      an_order = order.0;
      keeps_the_pairs = order.1;
      has_a_diagram_of_that_size = (exact.0, exact.1.represents, exact.1.size ∙ order.2);
      no_diagram_has_fewer = λ other d is keeps of. no_diagram_is_smaller cover.inputs (functions_of cover) cert good other d is keeps of;
    }

-- an accepted certificate is true
pub accepted : (cover : NamedCover) (cert : Certificate) (file text : List ℕ) (outcome : Outcome) (line : List ℕ) → Reads file cover →
    Spells text cert → HasVerdict cover cert outcome line → AcceptsTruly file text outcome
accepted cover cert file text Done line reads spells verdict = record {
  cover = cover;
  the_files_cover = reads;
  cert = cert;
  the_certificate = spells;
  none_has_fewer = true_certificate cover cert verdict.0;
}
accepted cover cert file text Invalid line reads spells verdict = record {}
accepted cover cert file text (Refused fault) line reads spells verdict = record {}

-- a verdict whose line is written
module _ (cover : NamedCover) (cert : Certificate) (before after : Option (List ℕ)) where
  pub checked : (file text : List ℕ) (outcome : Outcome) (line : List ℕ) → ReadsWithin file cover → SpellsWithin text cert →
      HasVerdict cover cert outcome line → Appends before after line → ChecksAs file text before after outcome
  checked file text Done line reads spells verdict written = (line, (cover, cert, reads, spells, verdict), written)
  checked file text Invalid line reads spells verdict written = (line, (cover, cert, reads, spells, verdict), written)
  checked file text (Refused fault) line reads spells verdict written = absurd verdict

  pub verdict_written : (outcome : Outcome) (line : List ℕ) → HasVerdict cover cert outcome line → Appends before after line →
      Verdicts before after outcome
  verdict_written Done line verdict written = (cover, cert, line, verdict, written)
  verdict_written Invalid line verdict written = (cover, cert, line, verdict, written)
  verdict_written (Refused fault) line verdict written = absurd verdict
