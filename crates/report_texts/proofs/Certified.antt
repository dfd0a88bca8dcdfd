-- The certificate of a solution.
--     certified, certified_if_asked      what is a certificate by the truth tables of a cover is one of the cover
use Rattle.std.proofs.Common.{ℕ, Bool, true, false, List, Option, Some, None, String, string_bytes, refl, subst}
use Rattle.std.specs.Global.{Global}
use Rattle.definitions.specs.Pairs.{Pair}
use Rattle.definitions.specs.Certificates.{certificate_of}
use Rattle.definitions.specs.Diagrams.{IsFirstKeeping}
use Rattle.definitions.specs.Problems.{TruthTables, functions}
use Rattle.definitions.proofs.Certificates.Same.{certificate_same}
use Rattle.certificate.specs.Faults.{Spells}
use Rattle.pla_reader.specs.Covers.{NamedCover, functions_of}
use Rattle.truth_table.specs.OfCovers.{AreTablesOf}
use Rattle.report_texts.specs.Answers.{IsCertificate, IsCertified, IsCertifiedBy}
use Rattle.truth_table.proofs.OfCovers.{tables_keep}
use Rattle.report_texts.proofs.SameAnswers.{first_same}

pub certified : (cover : NamedCover) (t : TruthTables) (P : List Pair) (order text : List ℕ) → AreTablesOf cover t →
    IsFirstKeeping t.inputs (functions t) P order
    → Spells text (certificate_of t.inputs (functions t) P order) → IsCertificate cover P text
unfolding certificate_of
certified cover t P order text h first spells =
    let first' = subst (λ k. IsFirstKeeping k (functions t) P order) h.inputs first in
    let same = certificate_same cover.inputs (functions t) (functions_of cover) (tables_keep cover t h) P order in record {
      cert = certificate_of cover.inputs (functions_of cover) P order;
      is = record { first = first_same cover.inputs (functions t) (functions_of cover) P order (tables_keep cover t h) first'; parts = refl };
      spells = subst (Spells text) same (subst (λ k. Spells text (certificate_of k (functions t) P order)) h.inputs spells);
    }

pub certified_if_asked : (cover : NamedCover) (t : TruthTables) (P : List Pair) (order : List ℕ) (asked : Bool) (text : Option (String Global)) →
    AreTablesOf cover t → IsFirstKeeping t.inputs (functions t) P order → IsCertifiedBy t P order asked text → IsCertified cover P asked text
certified_if_asked cover t P order false text h first is = is
certified_if_asked cover t P order true None h first is = is
certified_if_asked cover t P order true (Some text) h first is = certified cover t P order (string_bytes text) h first is
